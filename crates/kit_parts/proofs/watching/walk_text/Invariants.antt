use Rattle.std.proofs.Common.{◌≡◌}
use Rattle.kit_parts.proofs.watching.walk_text.Given as goal

abbrev pub invariant-loop-visit : goal.invariant-loop-visit
invariant-loop-visit g l = g.P.Part.settings l.part ≡ g.P.Part.settings l.initial.part
