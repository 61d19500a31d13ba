use Rattle.tests_walks.proofs.refused_members.is_right_in.Goals as goal

pub is_right_by-is_right-requires-clause-ready : goal.is_right_by-is_right-requires-clause-ready
is_right_by-is_right-requires-clause-ready g c κs within =
    rw (c.as_mut_slice.ensures.value) c.in_ok-members.ensures.members.0

pub is_right_by-is_right-requires-clause-table : goal.is_right_by-is_right-requires-clause-table
is_right_by-is_right-requires-clause-table g c κs within =
    rw (c.as_mut_slice.ensures.value) c.in_ok-members.ensures.members.1
