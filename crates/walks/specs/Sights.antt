-- What a walk visits on one thread, and what its visits return. (STDLIB Reference Manual, module ets: ets:select/2,
-- ets:select/3, ets:select_count/2, ets:select_delete/2.)
use Rattle.std.specs.Prelude.{ℕ, ◌+◌, ◌-◌, ◌==◌, Bool, true, false, not, ◌&&◌, if◌then◌else◌, nat_lt, min, Option, Some, None, filter, filter_map, flat_map, fold, map, take, drop, List, [], ◌∷◌, ◌++◌, length}
use Rattle.std.specs.List.{list_any, range_with_len}
use Rattle.std.specs.Option.{option_map_or}
use Rattle.term_core.specs.Datum.{Datum}
use Rattle.term_operand.specs.Operand.{boolean}
use Rattle.term_operand.specs.Order.{is_same}
use Rattle.part_core.specs.Settings.{is_ordered, part_of}
use Rattle.part_core.specs.Acts.{Cursor}
use Rattle.part_core.specs.Acts.Cursor.{Class, Behind}
use Rattle.part_core.specs.Rows.{Row, is_empty}
use Rattle.part_core.specs.Visits.{in_class, following_rows, next_class}
use Rattle.part_core.specs.Replies.{most_counted}
use Rattle.part_core.specs.After.{state_with}
use Rattle.tables.specs.Options.{settings_of}
use Rattle.tables.specs.OneThread.{TableState}
use Rattle.walk_core.specs.Walk.{Position}
use Rattle.walk_core.specs.Walk.Position.{InPart, AtNamed, Over}

-- where a walk begins, without named keys or with them
abbrev pub first_position : Option (List Datum) → Position
first_position None = InPart 0 None
first_position (Some []) = Over
first_position (Some (k ∷ ks)) = AtNamed 0

-- a visit: the rows that it looks at, and the walk's position after it
pub record Sight : Type 0 where
  pub rows : List Row
  pub behind : Position

-- the next part comes after a part, and the end after the last
abbrev pub behind_part : TableState → ℕ → Position
behind_part t part = if nat_lt (part + 1) t.options.parts then InPart (part + 1) None else Over

abbrev pub goes_on : TableState → ℕ → Option Cursor → Position
goes_on t part None = behind_part t part
goes_on t part (Some c) = InPart part (Some c)

-- the visits of the classes of a part from one on, by a base: one for each class
abbrev pub class_sights : TableState → ℕ → ℕ → ℕ → List Sight
class_sights t part base class =
    map (λ c. record { rows = in_class (settings_of t.options) base c (t.states part).rows; behind = goes_on t part (next_class base c) })
    (range_with_len class (base - class))

-- The visits of rows of an ordered set: one for each row, and one after them that finds no row left.
abbrev pub row_sights : TableState → ℕ → List Row → List Sight
row_sights t part rows =
    map (λ r. record { rows = r ∷ []; behind = InPart part (Some (Behind r.0)) }) rows
    ++ record { rows = []; behind = behind_part t part } ∷ []

-- the visits of a part: from its beginning, a set by the base that it has now; or from a cursor, a set by the base that
-- the cursor names
abbrev pub part_sights : TableState → ℕ → Option Cursor → List Sight
part_sights t part None =
    if is_ordered t.options.kind then row_sights t part (t.states part).rows
    else class_sights t part (t.states part).base 0
part_sights t part (Some (Class base class)) = class_sights t part base class
part_sights t part (Some (Behind k)) = row_sights t part (following_rows k (t.states part).rows)

-- the visits of named keys, one for each; the first key has this number
abbrev pub key_sights : TableState → ℕ → List Datum → List Sight
key_sights t n [] = []
key_sights t n (k ∷ ks) =
    let part = part_of (settings_of t.options) k in
    record { rows = filter (λ r. is_same k r.0) (t.states part).rows; behind = if is_empty ks then Over else AtNamed (n + 1) }
    ∷ key_sights t (n + 1) ks

-- the visits that are left of a walk: the rest of its part and then the parts after it, or the named keys that are left
abbrev pub sights_from : TableState → Option (List Datum) → Position → List Sight
sights_from t plan (InPart part cursor) =
    part_sights t part cursor
    ++ flat_map (λ k. part_sights t k None) (range_with_len (part + 1) (t.options.parts - (part + 1)))
sights_from t (Some keys) (AtNamed n) = key_sights t n (drop n keys)
sights_from t plan at = []

-- the rows that visits look at
abbrev pub rows_seen : List Sight → List Row
rows_seen sights = flat_map (λ v. v.rows) sights

-- the answers for the objects that visits look at, given the answer for each object
abbrev pub answers_in : (Datum → Option Datum) → List Sight → List Datum
answers_in answer sights = flat_map (λ r. filter_map answer r.1) (rows_seen sights)

-- visits from the first on, as long as there are fewer than `wanted` answers
abbrev pub made : (Datum → Option Datum) → ℕ → List Sight → List Sight
made answer wanted [] = []
made answer wanted (v ∷ vs) =
    if wanted == 0 then []
    else v ∷ made answer (wanted - length (answers_in answer (v ∷ []))) vs

-- what a walk in pieces returns, what it keeps for later, and its position then
pub record Piece : Type 0 where
  pub given : List Datum
  pub kept : List Datum
  pub at : Position

-- A piece: visits are made as long as there are fewer answers than the limit, counting those that were kept before. At
-- most `limit` answers are returned, and the rest is kept.
abbrev pub piece_of : (Datum → Option Datum) → ℕ → List Datum → Position → List Sight → Piece
piece_of answer limit kept at sights =
    let visits = made answer (limit - length kept) sights in
    let gathered = kept ++ answers_in answer visits in
    record { given = take limit gathered; kept = drop limit gathered; at = fold (λ before v. v.behind) at visits }

-- the visits of a whole walk
abbrev pub whole : TableState → Option (List Datum) → List Sight
whole t plan = sights_from t plan (first_position plan)

-- all answers (ets:select/2)
abbrev pub selected : TableState → Option (List Datum) → (Datum → Option Datum) → List Datum
selected t plan answer = answers_in answer (whole t plan)

-- the answer for an object is the atom true
abbrev pub is_answered_true : (Datum → Option Datum) → Datum → Bool
is_answered_true answer object = option_map_or (is_same (boolean true)) (answer object) false

-- the number of objects for which the answer is true (ets:select_count/2)
abbrev pub number_true : TableState → Option (List Datum) → (Datum → Option Datum) → ℕ
number_true t plan answer =
    min (length (flat_map (λ r. filter (is_answered_true answer) r.1) (rows_seen (whole t plan)))) most_counted

-- the walk meets a key in a part: any key, or, if keys are named, one of these, in its own part
abbrev pub is_met : TableState → Option (List Datum) → ℕ → Datum → Bool
is_met t None part k = true
is_met t (Some keys) part k =
    part_of (settings_of t.options) k == part && list_any (is_same k) keys

-- the rows of a part without the objects that the walk meets and for which the answer is true
abbrev pub rows_left : TableState → Option (List Datum) → (Datum → Option Datum) → ℕ → List Row
rows_left t plan answer part =
    map (λ r. (r.0, if is_met t plan part r.0 then filter (λ object. not (is_answered_true answer object)) r.1 else r.1)) (t.states part).rows

-- The table without these objects (ets:select_delete/2). A row without objects is removed, or stays as a dead one while
-- its part is fixed.
abbrev pub after_removal : TableState → Option (List Datum) → (Datum → Option Datum) → TableState
after_removal t plan answer =
    record { options = t.options; states = λ part. state_with (settings_of t.options) (t.states part) (rows_left t plan answer part) (t.states part).fixes }
