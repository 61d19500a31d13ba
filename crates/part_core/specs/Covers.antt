-- The cover of a visit: the keys that it answers for, determined by its entry alone.
use Rattle.std.specs.Prelude.{Bool, true, not, ◌&&◌, ◌==◌, Option, Some, None}
use Rattle.term_core.specs.Datum.{Datum}
use Rattle.term_operand.specs.Order.{is_same}
use Rattle.part_core.specs.declared.settings.Settings.{Settings}
use Rattle.part_core.specs.Settings.{class_at}
use Rattle.part_core.specs.Acts.{Cursor, Scope}
use Rattle.part_core.specs.Acts.Cursor.{Class, Behind}
use Rattle.part_core.specs.Acts.Scope.{Begin, After, Named}
use Rattle.part_core.specs.Visits.{is_beyond}

-- The keys up to which a visit went. In a set, a cursor names the base by which the visit took class 0. In an ordered
-- set, a cursor names the last key that the visit looked at. Without a cursor, the visit went over all remaining keys.
abbrev pub is_up_to : Settings → Option Cursor → Datum → Bool
is_up_to o None k = true
is_up_to o (Some (Class base class)) k = class_at o base k == 0
is_up_to o (Some (Behind j)) k = not (is_beyond j k)

-- the keys that a visit answers for, given where it looked and where the walk goes on
abbrev pub covers : Settings → Scope → Option Cursor → Datum → Bool
covers o (Named j) next k = is_same j k
covers o (After (Class base class)) next k = class_at o base k == class
covers o (After (Behind j)) next k = is_beyond j k && is_up_to o next k
covers o Begin next k = is_up_to o next k
