-- What the place of a key's row means for look-ups and for writing.
use Rattle.std.proofs.Common.{◌≡◌, ℕ, ◌<◌, ◌+◌, List, [], ◌∷◌, ◌++◌, refl, ap, sym, subst, ◌∙◌, arith, length, length-append, get_or, set, take, drop, append_assoc}
use Rattle.std.specs.Prelude.{true, false, Option, Some, filter, is_some, unwrap_or}
use Rattle.std.specs.List.{IsDistinct}
use Rattle.std.specs.Map.{keys_of, lookup}
use Rattle.std.proofs.lemmas.Bool.{true≢false}
use Rattle.std.proofs.lemmas.List.{get_or_at, set_at, take-append-drop, drop_at, drop_more, length-take-le}
use Rattle.std.proofs.lemmas.List.Elements.{filter-append}
use Rattle.std.proofs.lemmas.Map.Keys.{IsDistinct-tail}
use Rattle.term_core.specs.Datum.{Datum}
use Rattle.term_operand.specs.Order.{is_same}
use Rattle.part_core.specs.Rows.{Row, has_row, objects_at, rows_at_key}
use Rattle.part_core.proofs.KeyLemmas.{by_test}
use Rattle.part_core.proofs.RowLemmas.{unwritten}
use Rattle.part_core.proofs.KeyedLemmas.{no_other, none_there}
use Rattle.part_plain.specs.Places.{IsPlace}
use Rattle.part_core.specs.declared.settings.Settings.{Settings}
use Rattle.part_core.specs.Settings.{class_at, is_ordered}
use Rattle.part_core.specs.Visits.{in_class, walk_order}
use Rattle.part_core.specs.Replies.{rows_past}
use Rattle.part_engine.specs.Sets.{rows_from}
use Rattle.part_engine.proofs.WalkLemmas.{walk_after as behind_in_walk}

-- a look-up passes rows without the key
pub lookup_past : (k : Datum) (before rest : List Row) → has_row before k ≡ false → lookup (is_same k) (before ++ rest) ≡ lookup (is_same k) rest
lookup_past k [] rest none = refl
lookup_past k (r ∷ rows) rest none =
    by_test (is_same k r.0) _ (λ holds. absurd (true≢false (rw holds at none))) (λ fails. rw fails (lookup_past k rows rest (rw fails at none)))

-- rows without the key and one more row of another key don't have the key
pub none_more : (k : Datum) (before : List Row) (r : Row) → has_row before k ≡ false → is_same k r.0 ≡ false → has_row (before ++ r ∷ []) k ≡ false
none_more k before r none other =
    ap is_some (lookup_past k before (r ∷ []) none) ∙ rw other refl

-- if keys are distinct, no row after that of a key has it
pub none_behind : (k : Datum) (before : List Row) (row : Row) (after : List Row) → IsDistinct is_same (keys_of (before ++ row ∷ after)) → is_same k row.0 ≡ true → has_row after k ≡ false
none_behind k [] row after d there = no_other k row after d there
none_behind k (r ∷ before) row after d there =
    none_behind k before row after (IsDistinct-tail is_same r.0 (keys_of (before ++ row ∷ after)) d) there

-- if keys are distinct, writing at a key changes only its row
pub written_at : (k : Datum) (f : List Datum → List Datum) (before : List Row) (row : Row) (after : List Row) → IsDistinct is_same (keys_of (before ++ row ∷ after)) → has_row before k ≡ false → is_same k row.0 ≡ true → rows_at_key k f (before ++ row ∷ after) ≡ before ++ (row.0, f row.1) ∷ after
written_at k f [] row after d none there =
    rw there (ap (λ rs. (row.0, f row.1) ∷ rs) (unwritten k f after (no_other k row after d there)))
written_at k f (r ∷ before) row after d none there =
    by_test (is_same k r.0) _ (λ holds. absurd (true≢false (rw holds at none)))
    (λ fails. rw fails (ap (λ rs. r ∷ rs) (written_at k f before row after (IsDistinct-tail is_same r.0 (keys_of (before ++ row ∷ after)) d) (rw fails at none) there)))

-- the row at a place at which a search ends is the first of its key
pub place_here : (k : Datum) (rows : List Row) (place : ℕ) (row : Row) → place < length rows → row ≡ get_or rows place row → has_row (take place rows) k ≡ false → is_same k row.0 ≡ true → IsPlace k rows place
place_here k rows place row within is none there = record {
  before = take place rows;
  row = row;
  after = drop (place + 1) rows;
  whole = sym (take-append-drop place rows) ∙ ap (λ rs. take place rows ++ rs) (drop_more rows place row within ∙ ap (λ r. r ∷ drop (place + 1) rows) (sym is));
  count = length-take-le place rows (omega arith);
  first = none;
  there = there;
}

pub place_row : {k : Datum} {rows : List Row} {place : ℕ} (d : Row) (p : IsPlace k rows place) → get_or rows place d ≡ p.row
place_row {k} {rows} {place} d p =
    ap (λ rs. get_or rs place d) p.whole ∙ get_or_at p.before p.row p.after d place p.count

-- the rows after a place
pub rest_at : (before : List Row) (row : Row) (after : List Row) (place : ℕ) → length before ≡ place → drop (place + 1) (before ++ row ∷ after) ≡ after
rest_at before row after place count =
    ap (drop (place + 1)) (sym (append_assoc before (row ∷ []) after))
    ∙ drop_at (before ++ row ∷ []) after (place + 1) (omega (arith, length-append before (row ∷ []), count))

-- a look-up finds the objects of the row at the key's place
pub place_held : {k : Datum} {rows : List Row} {place : ℕ} (d : Row) → IsPlace k rows place → Some (get_or rows place d).1 ≡ lookup (is_same k) rows
place_held {k} {rows} {place} d p =
    let here : is_same k p.row.0 ≡ true = p.there in
    let found : lookup (is_same k) (p.row ∷ p.after) ≡ Some p.row.1 = rw here refl in
    ap (λ (r : Row). Some r.1) (place_row d p) ∙ sym (ap (lookup (is_same k)) p.whole ∙ lookup_past k p.before (p.row ∷ p.after) p.first ∙ found)

-- the objects of the key are those of its row
pub place_objects : {k : Datum} {rows : List Row} {place : ℕ} (d : Row) → IsPlace k rows place → (get_or rows place d).1 ≡ objects_at rows k
place_objects {k} {rows} {place} d p =
    ap (λ (os : Option (List Datum)). unwrap_or os []) (place_held d p)

pub place_there : {k : Datum} {rows : List Row} {place : ℕ} → IsPlace k rows place → has_row rows k ≡ true
place_there {k} {rows} {place} p = ap is_some (sym (place_held (k, []) p))

-- replacing the row at the key's place
pub place_set : {k : Datum} {rows : List Row} {place : ℕ} (new : Row) (p : IsPlace k rows place) → set rows place new ≡ p.before ++ new ∷ p.after
place_set {k} {rows} {place} new p =
    ap (λ rs. set rs place new) p.whole ∙ set_at p.before p.row p.after new place p.count

-- writing at the key is writing at the place
pub place_written : {k : Datum} {rows : List Row} {place : ℕ} (f : List Datum → List Datum) (d : Row) → IsPlace k rows place → IsDistinct is_same (keys_of rows) → set rows place ((get_or rows place d).0, f (get_or rows place d).1) ≡ rows_at_key k f rows
place_written {k} {rows} {place} f d p apart =
    ap (λ (r : Row). set rows place (r.0, f r.1)) (place_row d p)
    ∙ place_set (p.row.0, f p.row.1) p
    ∙ sym (written_at k f p.before p.row p.after (subst (λ rs. IsDistinct is_same (keys_of rs)) p.whole apart) p.first p.there)
    ∙ ap (rows_at_key k f) (sym p.whole)

-- if keys are distinct, the row of a key is the only one
pub alone : {k : Datum} {rows : List Row} {place : ℕ} (row : Row) → IsPlace k rows place → row ≡ get_or rows place row → IsDistinct is_same (keys_of rows) → row ∷ [] ≡ filter (λ r. is_same k r.0) rows
alone {k} {rows} {place} row p at apart =
    let here : is_same k p.row.0 ≡ true = p.there in
    let behind : has_row p.after k ≡ false = none_behind k p.before p.row p.after (subst (λ rs. IsDistinct is_same (keys_of rs)) p.whole apart) p.there in
    let rest : filter (λ r. is_same k r.0) (p.row ∷ p.after) ≡ p.row ∷ [] = rw (here, none_there k p.after behind) refl in
    ap (λ (r : Row). r ∷ []) (at ∙ place_row row p)
    ∙ sym (ap (filter (λ (r : Row). is_same k r.0)) p.whole
    ∙ filter-append (λ (r : Row). is_same k r.0) p.before (p.row ∷ p.after)
    ∙ ap (λ rs. rs ++ filter (λ r. is_same k r.0) (p.row ∷ p.after)) (none_there k p.before p.first)
    ∙ rest)

-- in walk order, the rows after that of a key are those of its class after its place, and those of the classes above
pub walk_after : (o : Settings) (base : ℕ) {k : Datum} {rows : List Row} {place : ℕ} → is_ordered o.kind ≡ false → class_at o base k < base → IsPlace k rows place → rows_past k (walk_order o base rows) ≡ in_class o base (class_at o base k) (drop (place + 1) rows) ++ rows_from o base (class_at o base k + 1) rows
walk_after o base {k} {rows} {place} kind below p =
    behind_in_walk o base k rows p.before p.row p.after kind below p.whole p.first p.there
    ∙ ap (λ rs. in_class o base (class_at o base k) rs ++ rows_from o base (class_at o base k + 1) rows) (sym (ap (drop (place + 1)) p.whole ∙ rest_at p.before p.row p.after place p.count))
