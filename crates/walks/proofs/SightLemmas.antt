-- The visits from a walk's position after a visit are those after that visit.
use Rattle.std.proofs.Common.{◌≡◌, ◌<◌, ◌≤◌, ◌+◌, ◌-◌, ℕ, suc, Option, Some, None, List, [], ◌∷◌, ◌++◌, refl, ◌∙◌, ap, arith, flat_map, map}
use Rattle.std.specs.Prelude.{false, nat_lt}
use Rattle.std.specs.List.{range_with_len}
use Rattle.std.proofs.lemmas.Bool.{ltb-true, ltb-false}
use Rattle.term_core.specs.Datum.{Datum}
use Rattle.part_core.specs.Settings.{is_ordered}
use Rattle.part_core.specs.Acts.Cursor.{Class, Behind}
use Rattle.part_core.specs.Rows.{Row}
use Rattle.part_core.specs.Visits.{in_class, next_class}
use Rattle.tables.specs.Options.{settings_of}
use Rattle.tables.specs.OneThread.{TableState}
use Rattle.part_core.proofs.KeyLemmas.{by_test}
use Rattle.walks.specs.Sights.{Sight, behind_part, goes_on, row_sights, part_sights, sights_from}
use Rattle.walk_core.specs.Walk.Position.{InPart}

-- a range that is not empty begins with its first number
range_step : (a b : ℕ) → a < b → range_with_len a (b - a) ≡ a ∷ range_with_len (a + 1) (b - (a + 1))
range_step a b below =
    let more : b - a ≡ suc (b - (a + 1)) = omega (arith, below) in
    ap (range_with_len a) more

range_none : (a b : ℕ) → b ≤ a → range_with_len a (b - a) ≡ []
range_none a b past =
    let none : b - a ≡ 0 = omega (arith, past) in
    ap (range_with_len a) none

-- the visits of the parts after one
abbrev later_parts : TableState → ℕ → List Sight
later_parts t part = flat_map (λ k. part_sights t k None) (range_with_len (part + 1) (t.options.parts - (part + 1)))

-- after a part, the visits of the parts after it follow
part_step : (t : TableState) (plan : Option (List Datum)) (part : ℕ) → later_parts t part ≡ sights_from t plan (behind_part t part)
part_step t plan part =
    by_test (nat_lt (part + 1) t.options.parts) _
    (λ holds. rw holds (ap (flat_map (λ k. part_sights t k None)) (range_step (part + 1) t.options.parts (ltb-true (part + 1) t.options.parts holds))))
    (λ fails. rw fails (ap (flat_map (λ k. part_sights t k None)) (range_none (part + 1) t.options.parts (ltb-false (part + 1) t.options.parts fails))))

-- a visit of a class
abbrev pub class_sight : TableState → ℕ → ℕ → ℕ → Sight
class_sight t part base class =
    record { rows = in_class (settings_of t.options) base class (t.states part).rows; behind = goes_on t part (next_class base class) }

behind_class : (t : TableState) (plan : Option (List Datum)) (part base class : ℕ) → map (class_sight t part base) (range_with_len (class + 1) (base - (class + 1))) ++ later_parts t part ≡ sights_from t plan (goes_on t part (next_class base class))
behind_class t plan part base class =
    by_test (nat_lt (class + 1) base) _
    (λ holds. rw holds refl)
    (λ fails. rw fails (ap (λ cs. map (class_sight t part base) cs ++ later_parts t part) (range_none (class + 1) base (ltb-false (class + 1) base fails)) ∙ part_step t plan part))

-- after a class, the visits from the next one on follow
pub class_step : (t : TableState) (plan : Option (List Datum)) (part base class : ℕ) → class < base → sights_from t plan (InPart part (Some (Class base class))) ≡ class_sight t part base class ∷ sights_from t plan (goes_on t part (next_class base class))
class_step t plan part base class below =
    ap (λ cs. map (class_sight t part base) cs ++ later_parts t part) (range_step class base below)
    ∙ ap (λ vs. class_sight t part base class ∷ vs) (behind_class t plan part base class)

-- a set's part begins with its first class, by the base that it has
pub first_class_step : (t : TableState) (plan : Option (List Datum)) (part : ℕ) → is_ordered t.options.kind ≡ false → sights_from t plan (InPart part None) ≡ sights_from t plan (InPart part (Some (Class (t.states part).base 0)))
first_class_step t plan part unordered = rw unordered refl

-- after a row, the visits of the rows after it follow, and at last those of the parts after
pub rows_step : (t : TableState) (part : ℕ) (r : Row) (rs : List Row) → row_sights t part (r ∷ rs) ≡ record { rows = r ∷ []; behind = InPart part (Some (Behind r.0)) } ∷ row_sights t part rs
rows_step t part r rs = refl

pub rows_end : (t : TableState) (plan : Option (List Datum)) (part : ℕ) → row_sights t part [] ++ later_parts t part ≡ record { rows = []; behind = behind_part t part } ∷ sights_from t plan (behind_part t part)
rows_end t plan part = ap (λ vs. record { rows = []; behind = behind_part t part } ∷ vs) (part_step t plan part)
