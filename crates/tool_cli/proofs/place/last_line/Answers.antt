use Rattle.std.proofs.Common.{arith}
use Rattle.tool_cli.proofs.PlaceLemmas.{last_is, none_behind}
use Rattle.tool_cli.proofs.place.last_line.Goals as goal

pub returns-then-text-start-eq10 : goal.returns-then-text-start-eq10
returns-then-text-start-eq10 c =
    last_is c.args.text.now c.loop-start.start _ (omega (arith, c.loop-start-test.true)) (omega (arith, c.loop-start.auto.start)) c.loop-start.invariant c.if-text-start-eq10.true

pub returns : goal.returns
returns c = none_behind c.args.text.now c.loop-start.start (omega (arith, c.loop-start-test.false)) c.loop-start.invariant
