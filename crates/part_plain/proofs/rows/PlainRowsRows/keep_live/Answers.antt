use Rattle.std.proofs.Common.{ap, sym, ◌∙◌}
use Rattle.std.specs.Prelude.{filter}
use Rattle.part_core.specs.Rows.{is_live}
use Rattle.part_plain.proofs.rows.PlainRowsRows.keep_live.Goals as goal

pub returns : goal.returns
returns g c = λ o w shown. record {
  served = shown.served;
  rows = ap (filter is_live) shown.rows ∙ sym c.keep_live.ensures;
  slots = shown.slots;
}
