use Rattle.std.proofs.Common.{refl}
use Rattle.part_rows.specs.Shown.{shown_live}
use Rattle.part_hash.proofs.ShownLemmas.{shown_still}
use Rattle.part_hash.proofs.rows.HashRowsRows.keep_live.Goals as goal

pub returns : goal.returns
returns g c = λ o w shown. shown_still (shown_live w) w shown (c.keep_live.ensures.done o w.rows shown.spread shown.rows) refl c.keep_live.ensures.slots
