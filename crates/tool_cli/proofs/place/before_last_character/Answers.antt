use Rattle.std.proofs.Common.{◌∙◌, arith, sym}
use Rattle.tool_cli.proofs.PlaceLemmas.{last_begins, none_begins}
use Rattle.tool_cli.proofs.place.before_last_character.Goals as goal

pub returns-then-begins_character : goal.returns-then-begins_character
returns-then-begins_character c =
    last_begins c.args.bytes.now c.loop-end.end _ (omega (arith, c.loop-end-test.true)) (omega (arith, c.loop-end.auto.end)) c.loop-end.invariant (sym c.begins_character.ensures ∙ c.if-begins_character.true)

pub returns : goal.returns
returns c = none_begins c.args.bytes.now c.loop-end.end (omega (arith, c.loop-end-test.false)) c.loop-end.invariant
