-- What a visit looks at, where a walk goes on after it, and the order of a walk.
use Rattle.std.specs.Prelude.{ℕ, ◌+◌, ◌-◌, Bool, true, false, not, ◌&&◌, ◌||◌, if◌then◌else◌, nat_eq, nat_lt, nat_le, ◌==◌, Option, Some, None, option_map, filter, filter_map, flat_map, sum_by, List, [], ◌∷◌, length}
use Rattle.std.specs.List.{list_any, last_or, range_with_len}
use Rattle.std.specs.Option.{option_map_or}
use Rattle.std.specs.Ordering.{is_lt}
use Rattle.term_core.specs.Datum.{Datum}
use Rattle.term_core.specs.Order.{datum_cmp}
use Rattle.term_operand.specs.Operand.{boolean}
use Rattle.term_operand.specs.Order.{is_same}
use Rattle.mcode.specs.Answer.{answer_of}
use Rattle.mcode.specs.Program.{Program}
use Rattle.part_core.specs.declared.settings.Settings.{Settings}
use Rattle.part_core.specs.Settings.{is_ordered, class_at}
use Rattle.part_core.specs.Acts.{Purpose, Cursor, Scope}
use Rattle.part_core.specs.Acts.Purpose.{Answers, Counts, Deletes}
use Rattle.part_core.specs.Acts.Cursor.{Class, Behind}
use Rattle.part_core.specs.Acts.Scope.{Begin, After, Named}
use Rattle.part_core.specs.Rows.{Row, PartState}

-- the code's answer for an object is the atom true
abbrev pub is_true : Program → Datum → Bool
is_true p object = option_map_or (is_same (boolean true)) (answer_of p object) false

-- what a visit yields of a list of objects: the answers for them, or the objects that it counts or deletes
abbrev pub yields : Purpose → Program → List Datum → List Datum
yields Answers p os = filter_map (answer_of p) os
yields Counts p os = filter (is_true p) os
yields Deletes p os = filter (is_true p) os

-- what a visit yields of all objects of these rows
abbrev pub yield_of_rows : Purpose → Program → List Row → List Datum
yield_of_rows purpose p rows = flat_map (λ r. yields purpose p r.1) rows

-- how many answers a row yields
abbrev pub answers_of : Purpose → Program → Row → ℕ
answers_of purpose p r = length (yields purpose p r.1)

-- the second key comes after the first in the order of terms
abbrev pub is_beyond : Datum → Datum → Bool
is_beyond k l = is_lt (datum_cmp k l)

-- the rows of a class, by a base
abbrev pub in_class : Settings → ℕ → ℕ → List Row → List Row
in_class o base class rows = filter (λ r. class_at o base r.0 == class) rows

-- the rows after a key
abbrev pub following_rows : Datum → List Row → List Row
following_rows k rows = filter (λ r. is_beyond k r.0) rows

-- the greatest number of rows that a visit of an ordered set looks at
abbrev pub most_rows : ℕ
most_rows = 64

-- the first rows, until there are `wanted` answers or `room` rows
unfoldable pub rows_up_to : (Row → ℕ) → ℕ → ℕ → List Row → List Row
rows_up_to answers wanted room [] = []
rows_up_to answers wanted room (r ∷ rs) =
    r ∷ (if nat_le wanted (answers r) || nat_le room 1 then []
    else rows_up_to answers (wanted - answers r) (room - 1) rs)

-- the rows that a visit looks at: those of a named key; a class by the base of the walk, which begins at class 0 by the
-- part's base; in an ordered set those after the cursor, as far as a visit goes
abbrev pub visited_rows : Settings → PartState → Purpose → Program → Scope → ℕ → List Row
visited_rows o s purpose p (Named k) wanted = filter (λ r. is_same k r.0) s.rows
visited_rows o s purpose p (After (Class base class)) wanted = in_class o base class s.rows
visited_rows o s purpose p (After (Behind k)) wanted =
    rows_up_to (answers_of purpose p) wanted most_rows (following_rows k s.rows)
visited_rows o s purpose p Begin wanted =
    if is_ordered o.kind then rows_up_to (answers_of purpose p) wanted most_rows s.rows
    else in_class o s.base 0 s.rows

-- the next class comes after a class; after the last there is none
abbrev pub next_class : ℕ → ℕ → Option Cursor
next_class base class = if nat_lt (class + 1) base then Some (Class base (class + 1)) else None

-- Where a walk of an ordered set goes on: after the last row that was looked at, if the visit reached its target or its
-- greatest number of rows; otherwise no row is left.
abbrev pub next_key : (Row → ℕ) → ℕ → List Row → Option Cursor
next_key answers wanted rows =
    if nat_le wanted (sum_by answers rows) || length rows == most_rows
    then option_map (λ r. Behind r.0) (last_or None rows) else None

-- where the walk goes on after a visit; none at its end
abbrev pub next_of : Settings → PartState → Purpose → Program → Scope → ℕ → Option Cursor
next_of o s purpose p (Named k) wanted = None
next_of o s purpose p (After (Class base class)) wanted = next_class base class
next_of o s purpose p (After (Behind k)) wanted =
    next_key (answers_of purpose p) wanted (visited_rows o s purpose p (After (Behind k)) wanted)
next_of o s purpose p Begin wanted =
    if is_ordered o.kind
    then next_key (answers_of purpose p) wanted (visited_rows o s purpose p Begin wanted)
    else next_class s.base 0

-- the numbers of slots that a set can have
abbrev pub bases : List ℕ
bases =
    8 ∷ 16 ∷ 32 ∷ 64 ∷ 128 ∷ 256 ∷ 512 ∷ 1024 ∷ 2048 ∷ 4096 ∷ 8192 ∷ 16384 ∷ 32768 ∷ 65536 ∷ []

-- a walk can go on there: in an ordered set after any key; in a set at a class below a base that the part has had
abbrev pub is_inside : Settings → PartState → Scope → Bool
is_inside o s (After (Behind k)) = is_ordered o.kind
is_inside o s (After (Class base class)) =
    not (is_ordered o.kind) && (list_any (nat_eq base) bases && (nat_le base s.base && nat_lt class base))
is_inside o s scope = true

-- the order of a walk: an ordered set by key, any other table class by class
unfoldable pub walk_order : Settings → ℕ → List Row → List Row
walk_order o base rows =
    if is_ordered o.kind then rows
    else flat_map (λ class. in_class o base class rows) (range_with_len 0 base)

-- the objects of a part, in the order of a walk that begins
abbrev pub walked_objects : Settings → PartState → List Datum
walked_objects o s = flat_map (λ r. r.1) (walk_order o s.base s.rows)
