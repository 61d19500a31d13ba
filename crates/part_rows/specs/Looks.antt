-- What a visit may look at.
use Rattle.std.specs.Prelude.{ℕ, ◌&&◌, Bool, true, not, if◌then◌else◌, nat_lt, filter, take, List}
use Rattle.term_operand.specs.Order.{is_same}
use Rattle.part_core.specs.declared.settings.Settings.{Settings}
use Rattle.part_core.specs.Settings.{is_ordered}
use Rattle.part_core.specs.Acts.{Scope}
use Rattle.part_core.specs.Acts.Cursor.{Class, Behind}
use Rattle.part_core.specs.Acts.Scope.{Begin, After, Named}
use Rattle.part_core.specs.Rows.{Row}
use Rattle.part_core.specs.Visits.{in_class, most_rows, following_rows}

-- a visit of a table with these settings can look there: in a set at a class below its base, in an ordered set after any key
abbrev pub is_placed : Settings → Scope → Bool
is_placed o (After (Class base class)) = not (is_ordered o.kind) && nat_lt class base
is_placed o (After (Behind k)) = is_ordered o.kind
is_placed o scope = true

-- the rows that a visit may look at
abbrev pub looked_at : Settings → ℕ → Scope → List Row → List Row
looked_at o base (Named k) rows = filter (λ r. is_same k r.0) rows
looked_at o base (After (Class other class)) rows = in_class o other class rows
looked_at o base (After (Behind k)) rows = take most_rows (following_rows k rows)
looked_at o base Begin rows =
    if is_ordered o.kind then take most_rows rows else in_class o base 0 rows
