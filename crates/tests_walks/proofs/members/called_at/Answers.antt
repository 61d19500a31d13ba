use Rattle.std.proofs.Common.{ap}
use Rattle.kit_members.proofs.TableLemmas.{of_one_table}
use Rattle.tests_walks.proofs.members.called_at.Goals as goal

pub called-came-requires-clause-table : goal.called-came-requires-clause-table
called-came-requires-clause-table g c κs within =
    of_one_table _ c.args.table.now.options c.args.table.now.gates.items c.as_mut_slice.result.now
    (rw (c.as_mut_slice.ensures.value) (λ k d inside. let h = c.seat_all.ensures k d inside in (ap (λ t. t.options) h.0, ap (λ t. t.gates.items) h.0)))
