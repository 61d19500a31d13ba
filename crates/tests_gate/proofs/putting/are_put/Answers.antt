use Rattle.tests_gate.proofs.putting.are_put.Goals as goal

pub are_all_put-are_put-requires : goal.are_all_put-are_put-requires
are_all_put-are_put-requires g c = c.requires
