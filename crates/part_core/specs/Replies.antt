-- What a part answers in a state.
use Rattle.std.specs.Prelude.{ℕ, ◌-◌, ◌^◌, if◌then◌else◌, nat_lt, min, Option, option_map, find, get_or, List, [], ◌∷◌, length}
use Rattle.term_core.specs.Datum.{Datum}
use Rattle.term_operand.specs.Order.{is_same}
use Rattle.mcode.specs.Program.{Program}
use Rattle.part_core.specs.declared.settings.Settings.{Settings}
use Rattle.part_core.specs.Settings.{is_ordered, is_object, key_of}
use Rattle.part_core.specs.Acts.{Purpose, Cursor, Scope, Act, Said, Answer}
use Rattle.part_core.specs.Acts.Purpose.{Answers, Counts, Deletes}
use Rattle.part_core.specs.Acts.Act.{Insert, InsertNew, Lookup, Member, Delete, DeleteObject, Take, Fix, Unfix, Release, Visit, First, Next}
use Rattle.part_core.specs.Acts.Said.{Nothing, Flag, Objects, AtKey, Found, Counted}
use Rattle.part_core.specs.Acts.Answer.{Replied, Refused}
use Rattle.part_core.specs.Acts.Refusal.{TooSmall, FixLimit, NotFixed, BadKey, CursorOutside}
use Rattle.part_core.specs.Rows.{Row, PartState, is_empty, is_live, objects_at, has_row}
use Rattle.part_core.specs.Visits.{yield_of_rows, following_rows, visited_rows, next_of, is_inside, walk_order}

-- the greatest number of fixes of one session at a part
abbrev pub most_fixes : ℕ
most_fixes = 65535

-- the greatest number that a visit counts
abbrev pub most_counted : ℕ
most_counted = 2 ^ 64 - 1

-- how many times a session fixes the part
abbrev pub fixes_of : PartState → ℕ → ℕ
fixes_of s n = get_or s.fixes n 0

-- what a visit yields: answers, or the objects that it counts or deletes
abbrev pub yield_of : Settings → PartState → Purpose → Program → Scope → ℕ → List Datum
yield_of o s purpose p scope wanted =
    yield_of_rows purpose p (visited_rows o s purpose p scope wanted)

-- the value that a visit returns: what it found, or how many, and where the walk goes on
abbrev pub said_by_visit : Purpose → List Datum → Option Cursor → Said
said_by_visit Answers found next = Found found next
said_by_visit Counts found next = Counted (min (length found) most_counted) next
said_by_visit Deletes found next = Counted (min (length found) most_counted) next

-- the first of these rows' keys that has objects
abbrev pub first_live : List Row → Option Datum
first_live rows = option_map (λ r. r.0) (find is_live rows)

-- the rows after that of a key
abbrev pub rows_past : Datum → List Row → List Row
rows_past k [] = []
rows_past k (r ∷ rs) = if is_same k r.0 then rs else rows_past k rs

-- the given value if the term is an object; any other term is refused
abbrev pub said_of_object : Settings → Datum → Said → Answer
said_of_object o t said = if is_object o t then Replied said else Refused TooSmall

-- the key after another, which may be any key in an ordered set; in another table it must have a row, dead or live
abbrev pub following_key : Settings → PartState → Datum → Answer
following_key o s k =
    if is_ordered o.kind then Replied (AtKey (first_live (following_rows k s.rows)))
    else if has_row s.rows k
    then Replied (AtKey (first_live (rows_past k (walk_order o s.base s.rows))))
    else Refused BadKey

-- the answer to an operation of a session
unfoldable pub reply_of : Settings → PartState → ℕ → Act → Answer
reply_of o s n (Insert t) = said_of_object o t Nothing
reply_of o s n (InsertNew t) =
    said_of_object o t (Flag (is_empty (objects_at s.rows (key_of o t))))
reply_of o s n (Lookup k) = Replied (Objects (objects_at s.rows k))
reply_of o s n (Member k) = Replied (Flag (is_live (k, objects_at s.rows k)))
reply_of o s n (Delete k) = Replied Nothing
reply_of o s n (DeleteObject t) = said_of_object o t Nothing
reply_of o s n (Take k) = Replied (Objects (objects_at s.rows k))
reply_of o s n Fix = if nat_lt (fixes_of s n) most_fixes then Replied Nothing else Refused FixLimit
reply_of o s n Unfix = if nat_lt 0 (fixes_of s n) then Replied Nothing else Refused NotFixed
reply_of o s n Release = Replied Nothing
reply_of o s n (Visit purpose p scope wanted) =
    if is_inside o s scope
    then Replied (said_by_visit purpose (yield_of o s purpose p scope wanted) (next_of o s purpose p scope wanted))
    else Refused CursorOutside
reply_of o s n First = Replied (AtKey (first_live (walk_order o s.base s.rows)))
reply_of o s n (Next k) = following_key o s k
