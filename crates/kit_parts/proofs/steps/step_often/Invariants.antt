use Rattle.std.proofs.Common.{◌≡◌}
use Rattle.kit_parts.proofs.steps.step_often.Given as goal

abbrev pub invariant-loop-done : goal.invariant-loop-done
invariant-loop-done g l = g.P.Part.settings l.part ≡ g.P.Part.settings l.initial.part
