use Rattle.tests_gate.proofs.refusals.is_spare.Goals as goal

pub is_answered-is_answered-requires : goal.is_answered-is_answered-requires
is_answered-is_answered-requires g c = c.in_ok-put_both.ensures.ready
