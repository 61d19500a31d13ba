use Rattle.tests_gate.proofs.acts.behind.Goals as goal

pub next-answered-requires : goal.next-answered-requires
next-answered-requires g c = c.requires
