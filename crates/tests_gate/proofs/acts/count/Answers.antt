use Rattle.tests_gate.proofs.acts.count.Goals as goal

pub lookup-found-requires : goal.lookup-found-requires
lookup-found-requires g c = c.requires
