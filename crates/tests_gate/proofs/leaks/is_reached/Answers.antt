use Rattle.tests_gate.proofs.leaks.is_reached.Goals as goal

pub is_reached_by-is_reached-requires : goal.is_reached_by-is_reached-requires
is_reached_by-is_reached-requires g c = c.requires
