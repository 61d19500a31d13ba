-- A walk: which session goes through which parts of a table with which query, the position of the walk, and which keys
-- it has done.
use Rattle.std.specs.Prelude.{ℕ, ◌≡◌, ◌+◌, ◌<◌, ◌≤◌, Bool, false, not, ◌&&◌, ◌||◌, ◌==◌, if◌then◌else◌, nat_lt, nat_le, get_or, length, take, IsTrue, IsFalse, Option, Some, None, List}
use Rattle.std.specs.List.{IsDistinct, list_any}
use Rattle.term_core.specs.Datum.{Datum}
use Rattle.term_core.specs.Datum.Datum.{nil}
use Rattle.term_operand.specs.Order.{is_same}
use Rattle.mcode.specs.Answer.{answer_of}
use Rattle.mcode.specs.Program.{Program}
use Rattle.part_core.specs.declared.settings.Settings.{Settings}
use Rattle.part_core.specs.Settings.{is_object, key_of, part_of, class_at}
use Rattle.part_core.specs.Acts.{Purpose, Cursor, Scope}
use Rattle.part_core.specs.Acts.Cursor.{Class, Behind}
use Rattle.part_core.specs.Acts.Scope.{Begin, After, Named}
use Rattle.part_core.specs.Visits.{is_beyond, is_inside}
use Rattle.part_core.specs.Covers.{covers}
use Rattle.part_core.specs.Legal.{state_after}
use Rattle.tables.specs.declared.options.Options.{Options}
use Rattle.tables.specs.Options.{settings_of}
use Rattle.tables.specs.Turns.{Views}

-- A walk: the options of the table, the session's number, the purpose, and the query's code; the keys that are named,
-- if only these are visited; and the first part and the one after the last.
pub record Walk : Type 0 where
  pub options : Options
  pub number : ℕ
  pub purpose : Purpose
  pub program : Program
  pub plan : Option (List Datum)
  pub from : ℕ
  pub to : ℕ

-- The position of a walk: in a part, after what a cursor has passed; at a named key, after that many others are done;
-- or at its end.
pub data Position : Type 0 where
  InPart : ℕ → Option Cursor → Position
  AtNamed : ℕ → Position
  Over : Position

-- the key is equal to one of these
abbrev pub is_among : List Datum → Datum → Bool
is_among ks k = list_any (is_same k) ks

-- the n-th named key, counted from 0
abbrev pub named_at : Option (List Datum) → ℕ → Datum
named_at None n = nil
named_at (Some ks) n = get_or ks n nil

-- how many keys are named
abbrev pub named_count : Option (List Datum) → ℕ
named_count None = 0
named_count (Some ks) = length ks

-- the key is one of the first n named keys
abbrev pub is_named_below : Option (List Datum) → ℕ → Datum → Bool
is_named_below None n k = false
is_named_below (Some ks) n k = is_among (take n ks) k

-- the position at the beginning of a part if it is before `to`, else the end
abbrev pub at_part : ℕ → ℕ → Position
at_part part to = if nat_lt part to then InPart part None else Over

-- the position at a named key if there is one with this number, else the end
abbrev pub at_key : ℕ → ℕ → Position
at_key n count = if nat_lt n count then AtNamed n else Over

-- the position where a walk begins
abbrev pub start_by : Option (List Datum) → ℕ → ℕ → Position
start_by None from to = at_part from to
start_by (Some ks) from to = at_key 0 (length ks)

abbrev pub start_of : Walk → Position
start_of w = start_by w.plan w.from w.to

-- the part of the next visit
abbrev pub part_at : Walk → Position → ℕ
part_at w (InPart part cursor) = part
part_at w (AtNamed n) = part_of (settings_of w.options) (named_at w.plan n)
part_at w Over = 0

-- what a visit looks at that goes on from a cursor, or, without one, begins
abbrev pub scope_from : Option Cursor → Scope
scope_from None = Begin
scope_from (Some cursor) = After cursor

-- what the next visit looks at
abbrev pub scope_at : Walk → Position → Scope
scope_at w (InPart part cursor) = scope_from cursor
scope_at w (AtNamed n) = Named (named_at w.plan n)
scope_at w Over = Begin

-- the position after a visit in a part, depending on the cursor that the visit returned
abbrev pub position_in : ℕ → ℕ → Option Cursor → Position
position_in to part None = at_part (part + 1) to
position_in to part (Some cursor) = InPart part (Some cursor)

-- the position after a visit
abbrev pub next_position : Walk → Position → Option Cursor → Position
next_position w (InPart part cursor) next = position_in w.to part next
next_position w (AtNamed n) next = at_key (n + 1) (named_count w.plan)
next_position w Over next = Over

-- the key is in one of the parts from the walk's first up to `to`, excluding it
abbrev pub is_in_parts : Walk → ℕ → Datum → Bool
is_in_parts w to k =
    nat_le w.from (part_of (settings_of w.options) k) && nat_lt (part_of (settings_of w.options) k) to

-- the cursor has passed the key
abbrev pub is_passed : Settings → Option Cursor → Datum → Bool
is_passed o None k = false
is_passed o (Some (Class base class)) k = nat_lt (class_at o base k) class
is_passed o (Some (Behind j)) k = not (is_beyond j k)

-- the keys that a walk covers: those that are named, or those of its parts
abbrev pub is_all : Walk → Option (List Datum) → Datum → Bool
is_all w None k = is_in_parts w w.to k
is_all w (Some ks) k = is_among ks k

-- the keys that a walk has done: those of the parts before, those that the cursor has passed, the first named ones
abbrev pub is_done : Walk → Position → Datum → Bool
is_done w (InPart part cursor) k =
    is_in_parts w part k
    || ((part_of (settings_of w.options) k == part) && is_passed (settings_of w.options) cursor k)
is_done w (AtNamed n) k = is_named_below w.plan n k
is_done w Over k = is_all w w.plan k

-- the keys that the next visit answers for, depending on the cursor that it returns: those of its part that it covers
abbrev pub is_covered : Walk → Position → Option Cursor → Datum → Bool
is_covered w at next k =
    (part_of (settings_of w.options) k == part_at w at) && covers (settings_of w.options) (scope_at w at) next k

-- the named keys are distinct
abbrev pub IsPlan : Option (List Datum) → Type 0
IsPlan None = Unit {0}
IsPlan (Some ks) = IsDistinct is_same ks

-- A walk of a session of the table, through parts of it. If keys are named, they are distinct, and the query has no
-- answer for an object with another key.
pub record IsWalk (w : Walk) : Type 0 where
  pub parts : (0 < w.options.parts) × (w.to ≤ w.options.parts)
  pub number : w.number < w.options.sessions
  pub plan : IsPlan w.plan
  pub silent : (t : Datum) → IsTrue (is_object (settings_of w.options) t)
      → IsTrue (is_in_parts w w.to (key_of (settings_of w.options) t))
      → IsFalse (is_all w w.plan (key_of (settings_of w.options) t)) → answer_of w.program t ≡ None

-- the walk can be there: the scope of its next visit is inside the part
abbrev pub IsPosition : Walk → Views → Position → Type 0
IsPosition w now (InPart part cursor) =
    (w.plan ≡ None) × (w.from ≤ part) × (part < w.to)
    × IsTrue (is_inside (settings_of w.options) (state_after (settings_of w.options) (now part)) (scope_from cursor))
IsPosition w now (AtNamed n) = n < named_count w.plan
IsPosition w now Over = Unit {0}
