-- What rows of tables that aren't walked in key order have in common.
use Rattle.std.specs.Prelude.{ℕ, ◌-◌, Bool, not, if◌then◌else◌, flat_map, List, [], ◌∷◌, ◌++◌}
use Rattle.std.specs.List.{range_with_len}
use Rattle.term_core.specs.Datum.{Datum}
use Rattle.part_core.specs.declared.kind.TableKind.{TableKind}
use Rattle.part_core.specs.declared.settings.Settings.{Settings}
use Rattle.part_core.specs.Settings.{is_ordered}
use Rattle.part_core.specs.Rows.{Row, has_row}
use Rattle.part_core.specs.Visits.{in_class}

-- the kinds that are served: all but ordered sets
abbrev pub serves : TableKind → Bool
serves kind = not (is_ordered kind)

-- the rows with a row of the key; if it had none, a dead one is appended
abbrev pub with_key : Datum → List Row → List Row
with_key k rows = if has_row rows k then rows else rows ++ (k, []) ∷ []

-- the rows of the classes from `class` on, by a base
abbrev pub rows_from : Settings → ℕ → ℕ → List Row → List Row
rows_from o base class rows =
    flat_map (λ c. in_class o base c rows) (range_with_len class (base - class))
