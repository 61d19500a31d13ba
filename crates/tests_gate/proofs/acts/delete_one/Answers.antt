use Rattle.tests_gate.proofs.acts.delete_one.Goals as goal

pub delete-requires : goal.delete-requires
delete-requires g c = c.requires
