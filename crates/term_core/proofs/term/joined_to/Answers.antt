use Rattle.term_core.proofs.term.joined_to.Goals as goal

pub joined-requires-clause-some : goal.joined-requires-clause-some
joined-requires-clause-some g c = c.requires.some
