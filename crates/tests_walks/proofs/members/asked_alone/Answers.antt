use Rattle.std.proofs.Common.{refl, []}
use Rattle.kit_members.proofs.TableLemmas.{of_one_table}
use Rattle.tests_walks.proofs.members.asked_alone.Goals as goal

pub called-came-requires-clause-table : goal.called-came-requires-clause-table
called-came-requires-clause-table g c κs within =
    of_one_table _ c.options-options.result [] c.as_mut_slice-2.result.now
    (rw (c.as_mut_slice-2.ensures.value) (λ k d inside. ((c.put_locals.ensures k d inside).0, refl)))
