use Rattle.std.proofs.Common.{refl, ◌∙◌}
use Rattle.part_core.specs.Acts.Purpose.{Counts}
use Rattle.part_rows.proofs.ListedLemmas.{total_there}
use Rattle.part_rows.proofs.listed.count_listed.Goals as goal

pub loop-number-preserved : goal.loop-number-preserved
loop-number-preserved g c =
    let count = rw c.loop-number.invariant.0 at c.in_ok-count.ensures.count in (
      c.count_place.ensures.code ∙ c.loop-number.invariant.0,
      total_there Counts c.args.machine.now.code (g.R.Rows.row_of c.args.rows.now) c.args.places.now c.loop-number.number _ _ c.loop-number.total c.in_ok-count.count c.saturating_add-total.result c.loop-number-test.true refl c.loop-number.invariant.1 count c.saturating_add-total.ensures,
    )
