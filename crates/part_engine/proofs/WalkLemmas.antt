-- Walk order, class by class, and what comes after a key.
use Rattle.std.proofs.Common.{◌≡◌, ℕ, ◌<◌, ◌≤◌, ◌+◌, ◌-◌, zero, suc, List, [], ◌∷◌, ◌++◌, refl, ap, sym, ◌∙◌, arith, append_assoc, eq-eqb}
use Rattle.std.specs.Prelude.{Bool, true, false, ◌==◌, if◌then◌else◌, Option, None, is_some, flat_map}
use Rattle.std.specs.List.{range_with_len}
use Rattle.std.specs.Map.{lookup}
use Rattle.std.proofs.lemmas.Bool.{true≢false, eqb-true}
use Rattle.std.proofs.lemmas.List.{append-nil}
use Rattle.std.proofs.lemmas.List.Concat.{flat_map-append}
use Rattle.std.proofs.lemmas.List.Elements.{filter-append}
use Rattle.std.proofs.lemmas.Map.Entries.{lookup-filter-keys}
use Rattle.term_core.specs.Datum.{Datum}
use Rattle.term_operand.specs.Order.{is_same}
use Rattle.part_core.specs.declared.settings.Settings.{Settings}
use Rattle.part_core.specs.Settings.{class_at, is_ordered}
use Rattle.part_core.specs.Rows.{Row, has_row}
use Rattle.part_core.specs.Visits.{in_class, walk_order}
use Rattle.part_core.specs.Replies.{rows_past}
use Rattle.part_core.proofs.KeyLemmas.{by_test, alike}
use Rattle.part_engine.specs.Sets.{rows_from}

-- ---- one class after the other

pub rows_step : (o : Settings) (base class : ℕ) (rows : List Row) → class < base → rows_from o base class rows ≡ in_class o base class rows ++ rows_from o base (class + 1) rows
rows_step o base class rows below =
    let one : base - class ≡ suc (base - (class + 1)) = omega arith in
    ap (λ n. flat_map (λ c. in_class o base c rows) (range_with_len class n)) one

pub rows_none : (o : Settings) (base class : ℕ) (rows : List Row) → base ≤ class → rows_from o base class rows ≡ []
rows_none o base class rows past =
    let none : base - class ≡ 0 = omega arith in
    ap (λ n. flat_map (λ c. in_class o base c rows) (range_with_len class n)) none

-- a table that isn't walked in key order is walked from its first class on
pub walk_unordered : (o : Settings) (base : ℕ) (rows : List Row) → is_ordered o.kind ≡ false → rows_from o base 0 rows ≡ walk_order o base rows
unfolding walk_order
walk_unordered o base rows kind =
    let all : base - 0 ≡ base = omega arith in
    rw kind (ap (λ n. flat_map (λ c. in_class o base c rows) (range_with_len 0 n)) all)

-- ---- after a key

past_skip : (k : Datum) (xs ys : List Row) → has_row xs k ≡ false → rows_past k (xs ++ ys) ≡ rows_past k ys
past_skip k [] ys none = refl
past_skip k (r ∷ xs) ys none =
    by_test (is_same k r.0) _ (λ holds. absurd (true≢false (rw holds at none))) (λ fails. rw fails (past_skip k xs ys (rw fails at none)))

-- the key has no row in a class that isn't its own
none_in_class : (o : Settings) (base class : ℕ) (k : Datum) (rows : List Row) → (class_at o base k == class) ≡ false → has_row (in_class o base class rows) k ≡ false
none_in_class o base class k rows other =
    ap is_some (lookup-filter-keys (is_same k) (λ j. class_at o base j == class) false (λ j h. alike (λ l. class_at o base l == class) k j h ∙ other) rows)

none_filtered : (o : Settings) (base class : ℕ) (k : Datum) (rows : List Row) → has_row rows k ≡ false → has_row (in_class o base class rows) k ≡ false
none_filtered o base class k rows none =
    ap is_some (lookup-filter-keys (is_same k) (λ j. class_at o base j == class) (class_at o base k == class) (λ j h. alike (λ l. class_at o base l == class) k j h) rows) ∙ of (class_at o base k == class) (lookup (is_same k) rows) none
  where
    of : (b : Bool) (found : Option (List Datum)) → is_some found ≡ false → is_some (if b then found else None) ≡ false
    of true found h = h
    of false found h = refl

past_classes : (o : Settings) (base : ℕ) (k : Datum) (rows : List Row) (n class : ℕ) → class + n ≡ class_at o base k → class_at o base k < base → rows_past k (rows_from o base class rows) ≡ rows_past k (rows_from o base (class_at o base k) rows)
past_classes o base k rows zero class is below =
    ap (λ c. rows_past k (rows_from o base c rows)) (omega (arith, is))
past_classes o base k rows (suc n) class is below =
    let other : (class_at o base k == class) ≡ false = by_test (class_at o base k == class) _ (λ same. absurd (omega (arith, eqb-true _ _ same, is))) (λ no. no) in
    ap (rows_past k) (rows_step o base class rows (omega (arith, is, below)))
    ∙ past_skip k (in_class o base class rows) (rows_from o base (class + 1) rows) (none_in_class o base class k rows other)
    ∙ past_classes o base k rows n (class + 1) (omega (arith, is)) below

past_here : (o : Settings) (base : ℕ) (k : Datum) (before : List Row) (row : Row) (after more : List Row) → has_row before k ≡ false → is_same k row.0 ≡ true → rows_past k (in_class o base (class_at o base k) (before ++ row ∷ after) ++ more) ≡ in_class o base (class_at o base k) after ++ more
past_here o base k before row after more none there =
    let here : (class_at o base row.0 == class_at o base k) ≡ true = alike (λ l. class_at o base l == class_at o base k) k row.0 there ∙ eq-eqb _ _ refl in
    let split : in_class o base (class_at o base k) (before ++ row ∷ after) ≡ in_class o base (class_at o base k) before ++ row ∷ in_class o base (class_at o base k) after = filter-append (λ (r : Row). class_at o base r.0 == class_at o base k) before (row ∷ after) ∙ ap (λ rs. in_class o base (class_at o base k) before ++ rs) (rw here refl) in
    ap (λ rs. rows_past k (rs ++ more)) split
    ∙ ap (rows_past k) (append_assoc (in_class o base (class_at o base k) before) (row ∷ in_class o base (class_at o base k) after) more)
    ∙ past_skip k (in_class o base (class_at o base k) before) (row ∷ in_class o base (class_at o base k) after ++ more) (none_filtered o base (class_at o base k) k before none)
    ∙ rw there refl

-- the rows after that of a key are those of its class created after it, and those of the classes above
pub walk_after : (o : Settings) (base : ℕ) (k : Datum) (rows before : List Row) (row : Row) (after : List Row) → is_ordered o.kind ≡ false → class_at o base k < base → rows ≡ before ++ row ∷ after → has_row before k ≡ false → is_same k row.0 ≡ true → rows_past k (walk_order o base rows) ≡ in_class o base (class_at o base k) after ++ rows_from o base (class_at o base k + 1) rows
walk_after o base k rows before row after kind below whole first there =
    ap (rows_past k) (sym (walk_unordered o base rows kind))
    ∙ past_classes o base k rows (class_at o base k) 0 (omega arith) below
    ∙ ap (rows_past k) (rows_step o base (class_at o base k) rows below)
    ∙ ap (λ rs. rows_past k (in_class o base (class_at o base k) rs ++ rows_from o base (class_at o base k + 1) rows)) whole
    ∙ past_here o base k before row after (rows_from o base (class_at o base k + 1) rows) first there

-- ---- the objects, class by class

abbrev pub all_objects : List Row → List Datum
all_objects rows = flat_map (λ r. r.1) rows

pub class_next : (o : Settings) (base class : ℕ) (rows : List Row) (before after whole : List Datum) → class < base → before ++ all_objects (rows_from o base class rows) ≡ whole → after ≡ before ++ all_objects (in_class o base class rows) → after ++ all_objects (rows_from o base (class + 1) rows) ≡ whole
class_next o base class rows before after whole below is more =
    ap (λ xs. xs ++ all_objects (rows_from o base (class + 1) rows)) more
    ∙ append_assoc before (all_objects (in_class o base class rows)) (all_objects (rows_from o base (class + 1) rows))
    ∙ ap (λ xs. before ++ xs) (sym (flat_map-append (λ (v : Row). v.1) (in_class o base class rows) (rows_from o base (class + 1) rows)))
    ∙ ap (λ rs. before ++ all_objects rs) (sym (rows_step o base class rows below))
    ∙ is

pub classes_all : (o : Settings) (base class : ℕ) (rows : List Row) (found whole : List Datum) → base ≤ class → found ++ all_objects (rows_from o base class rows) ≡ whole → found ≡ whole
classes_all o base class rows found whole past is =
    sym (append-nil found) ∙ ap (λ rs. found ++ all_objects rs) (sym (rows_none o base class rows past)) ∙ is
