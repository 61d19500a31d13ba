use Rattle.tests_walks.proofs.writers.is_walked.Given as goal

abbrev pub invariant-loop-piece : goal.invariant-loop-piece
invariant-loop-piece g l =
    g.T.TryTurns.is_ready l.session
