use Rattle.std.proofs.Common.{arith}
use Rattle.tool_cli.proofs.PlaceLemmas.{first_is, none_is}
use Rattle.tool_cli.proofs.place.first_line.Goals as goal

pub returns-then-text-end-eq10 : goal.returns-then-text-end-eq10
returns-then-text-end-eq10 c = first_is c.args.text.now c.loop-end.end _ c.loop-end-test.true c.loop-end.invariant c.if-text-end-eq10.true

pub returns : goal.returns
returns c = none_is c.args.text.now c.loop-end.end c.loop-end.auto.end-end (omega (arith, c.loop-end-test.false)) c.loop-end.invariant
