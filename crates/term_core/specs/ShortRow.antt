-- One to four terms in a row.
use Rattle.std.specs.Prelude.{List}
use Rattle.term_core.specs.Datum.{Datum}
use Rattle.term_core.specs.declared.term.short_row.ShortRow.{ShortRow}
use Rattle.term_core.specs.declared.term.short_row.ShortRow.TheVariants as row

-- the terms of a short row, from the left
abbrev pub row_items : {A : Type 0} → ShortRow A → List Datum
row_items (row.One ds) = ds
row_items (row.Two ds) = ds
row_items (row.Three ds) = ds
row_items (row.Four ds) = ds
