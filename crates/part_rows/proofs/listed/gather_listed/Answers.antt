use Rattle.std.proofs.Common.{refl, ◌∙◌}
use Rattle.part_core.specs.Acts.Purpose.{Answers}
use Rattle.part_rows.proofs.ListedLemmas.{given_there}
use Rattle.part_rows.proofs.listed.gather_listed.Goals as goal

pub loop-number-preserved : goal.loop-number-preserved
loop-number-preserved g c =
    let found = rw c.loop-number.invariant.0 at c.in_ok-gather_place.ensures.found in (
      c.gather_place.ensures.code ∙ c.loop-number.invariant.0,
      given_there Answers c.args.machine.now.code (g.R.Rows.row_of c.args.rows.now) c.args.places.now c.loop-number.number _ _ c.args.found.now.items c.loop-number.found.items c.gather_place.new.found.items c.loop-number-test.true refl c.loop-number.invariant.1 found,
    )
