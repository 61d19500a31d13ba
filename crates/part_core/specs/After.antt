-- The state that an operation leaves.
use Rattle.std.specs.Prelude.{ℕ, ◌+◌, ◌-◌, ◌*◌, not, ◌&&◌, ◌||◌, if◌then◌else◌, nat_lt, filter, map, set, get_or, List, [], length}
use Rattle.std.specs.List.{list_any}
use Rattle.std.specs.Map.{keys_of}
use Rattle.term_core.specs.Datum.{Datum}
use Rattle.term_operand.specs.Order.{is_same}
use Rattle.mcode.specs.Program.{Program}
use Rattle.part_core.specs.declared.kind.TableKind.{TableKind}
use Rattle.part_core.specs.declared.settings.Settings.{Settings}
use Rattle.part_core.specs.Settings.{is_ordered, key_of}
use Rattle.part_core.specs.Acts.{Act, is_refused}
use Rattle.part_core.specs.Acts.Act.{Insert, InsertNew, Delete, DeleteObject, Take, Fix, Unfix, Release, Visit}
use Rattle.part_core.specs.Acts.Purpose.{Deletes}
use Rattle.part_core.specs.Rows.{Row, PartState, is_empty, is_live, is_fixed, objects_at, objects_without, rows_at_key, with_object}
use Rattle.part_core.specs.Visits.{is_true, visited_rows}
use Rattle.part_core.specs.Replies.{reply_of}

-- the greatest number of slots of a set
abbrev pub most_slots : ℕ
most_slots = 65536

-- the rows, with the objects for which the query returns true deleted at the given keys
abbrev pub rows_without_true : Program → List Datum → List Row → List Row
rows_without_true p keys rows =
    map (λ r. (r.0, if list_any (is_same r.0) keys then filter (λ t. not (is_true p t)) r.1 else r.1)) rows

-- the rows after an operation, dead ones among them
abbrev pub rows_after : Settings → PartState → Act → List Row
rows_after o s (Insert t) = with_object o t s.rows
rows_after o s (InsertNew t) =
    if is_empty (objects_at s.rows (key_of o t)) then with_object o t s.rows else s.rows
rows_after o s (Delete k) = rows_at_key k (λ os. []) s.rows
rows_after o s (DeleteObject t) = rows_at_key (key_of o t) (objects_without t) s.rows
rows_after o s (Take k) = rows_at_key k (λ os. []) s.rows
rows_after o s (Visit Deletes p scope wanted) =
    rows_without_true p (keys_of (visited_rows o s Deletes p scope wanted)) s.rows
rows_after o s act = s.rows

-- the count of fixes of each session after an operation
abbrev pub counts_after : List ℕ → ℕ → Act → List ℕ
counts_after fixes n Fix = set fixes n (get_or fixes n 0 + 1)
counts_after fixes n Unfix = set fixes n (get_or fixes n 0 - 1)
counts_after fixes n Release = set fixes n 0
counts_after fixes n act = fixes

-- The number of slots after an operation. They are doubled, up to the most, if a row was added to a set and there are
-- more than four rows per slot, dead ones among them.
abbrev pub slots_after : TableKind → ℕ → ℕ → ℕ → ℕ
slots_after kind before now slots =
    if is_ordered kind || not (nat_lt before now && (nat_lt (4 * slots) now && nat_lt slots most_slots))
    then slots else 2 * slots

-- dead rows stay only while some session fixes the part
abbrev pub kept_rows : List ℕ → List Row → List Row
kept_rows fixes rows = if is_fixed fixes then rows else filter is_live rows

-- The state with other rows and fixes. While some session fixes the part, dead rows stay, and so does the base for
-- walks that begin.
abbrev pub state_with : Settings → PartState → List Row → List ℕ → PartState
state_with o s rows fixes =
    let kept = kept_rows fixes rows in
    let slots = slots_after o.kind (length s.rows) (length kept) s.slots in
    record { rows = kept; fixes = fixes; slots = slots; base = if is_fixed fixes then s.base else slots }

-- the state after an operation of a session; a refused operation changes nothing
unfoldable pub after : Settings → PartState → ℕ → Act → PartState
after o s n act =
    if is_refused (reply_of o s n act) then s
    else state_with o s (rows_after o s act) (counts_after s.fixes n act)
