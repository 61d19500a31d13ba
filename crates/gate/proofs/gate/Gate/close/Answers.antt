use Rattle.std.proofs.Common.{ap, ◌∙◌}
use mathlib.Core.Option.{some}
use Rattle.gate.proofs.StepLemmas.{closes}
use Rattle.gate.proofs.gate.Gate.close.Goals as goal

pub returns-then-is_home : goal.returns-then-is_home
returns-then-is_home g c =
    rw (← c.pass.view_is)
    (closes g.P.Part.settings g.P.Part.is_after _ _ c.pass.inside.seat.me.0 c.pass.inside.number _ _ c.take-part.result c.pass.invariant.1
    c.close_with-closed.ensures.values.2 (c.word-is_home.ensures ∙ ap some c.if-is_home.true) c.take-part.ensures.value)
