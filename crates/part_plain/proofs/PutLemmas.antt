-- An object inserted at its key's place in a list of rows.
use Rattle.std.proofs.Common.{◌≡◌, ℕ, ◌<◌, ◌≤◌, ◌+◌, List, [], ◌∷◌, ◌++◌, refl, ap, sym, subst, ◌∙◌, arith, length, length-append, set, get_or}
use Rattle.std.specs.Prelude.{Bool, true, false, not, if◌then◌else◌, Option, Some, None, is_some, unwrap_or}
use Rattle.std.specs.List.{IsDistinct}
use Rattle.std.specs.Map.{keys_of, lookup}
use Rattle.std.proofs.lemmas.Bool.{true≢false}
use Rattle.term_core.specs.Datum.{Datum}
use Rattle.term_operand.specs.Order.{is_same}
use Rattle.part_core.specs.declared.settings.Settings.{Settings}
use Rattle.part_core.specs.Settings.{is_ordered, key_of}
use Rattle.part_core.specs.Rows.{Row, is_empty, is_live, has_row, objects_at, objects_with, rows_at_key, with_object}
use Rattle.part_core.proofs.KeyLemmas.{by_test, same_from}
use Rattle.part_core.proofs.RowLemmas.{keys_new_distinct, no_objects}
use Rattle.part_rows.specs.declared.put.Put.{Put}
use Rattle.part_rows.specs.declared.put.Put.TheVariants.{Kept, Revived, Done}
use Rattle.part_rows.specs.Puts.{is_put, put_at}
use Rattle.part_plain.specs.Places.{IsPlace}
use Rattle.part_engine.specs.Sets.{with_key}
use Rattle.part_plain.proofs.PlaceLemmas.{lookup_past, place_objects, place_row, place_set, place_written, written_at}

-- ---- a row for a key

-- a row that was appended is at the last place
pub place_behind : (k : Datum) (rows : List Row) (place : ℕ) → has_row rows k ≡ false → length rows ≡ place → IsPlace k (rows ++ (k, []) ∷ []) place
place_behind k rows place none count = record {
  before = rows;
  row = (k, []);
  after = [];
  whole = refl;
  count = count;
  first = none;
  there = same_from k k refl;
}

pub key_there : (k : Datum) (rows : List Row) → has_row rows k ≡ true → rows ≡ with_key k rows
key_there k rows there = rw there refl

-- a row that was appended has no objects
objects_kept : (k : Datum) (rows : List Row) → objects_at (with_key k rows) k ≡ objects_at rows k
objects_kept k rows =
    by_test (has_row rows k) _
    (λ there. rw there refl)
    (λ none. rw none (ap (λ found. unwrap_or found []) (lookup_past k rows ((k, []) ∷ []) none) ∙ added ∙ sym (no_objects rows k none)))
  where
    added : objects_at ((k, []) ∷ []) k ≡ []
    added = let same : is_same k k ≡ true = same_from k k refl in rw same refl

distinct_kept : (k : Datum) (rows : List Row) → IsDistinct is_same (keys_of rows) → IsDistinct is_same (keys_of (with_key k rows))
distinct_kept k rows apart =
    by_test (has_row rows k) _ (λ there. rw there apart) (λ none. rw none (keys_new_distinct k [] rows apart none))

-- ---- the object

-- inserting an object changes the objects of its key's row
put_at_key : (o : Settings) (t : Datum) (rows : List Row) → is_ordered o.kind ≡ false → IsDistinct is_same (keys_of rows) → rows_at_key (key_of o t) (λ os. objects_with o.kind os t) (with_key (key_of o t) rows) ≡ with_object o t rows
put_at_key o t rows plain apart =
    by_test (has_row rows (key_of o t)) _
    (λ there. rw there refl)
    (λ none. rw (none, plain) (written_at (key_of o t) (λ os. objects_with o.kind os t) rows (key_of o t, []) [] (keys_new_distinct (key_of o t) [] rows apart none) none (same_from (key_of o t) (key_of o t) refl)))

-- the rows after an object is inserted into the row at its key's place
pub put_there : (o : Settings) (t : Datum) (rows found : List Row) (place : ℕ) (row new : Row) → found ≡ with_key (key_of o t) rows → IsPlace (key_of o t) found place → row ≡ get_or found place row → new ≡ (row.0, objects_with o.kind row.1 t) → is_ordered o.kind ≡ false → IsDistinct is_same (keys_of rows) → set found place new ≡ with_object o t rows
put_there o t rows found place row new is p at made plain apart =
    let distinct : IsDistinct is_same (keys_of found) = subst (λ rs. IsDistinct is_same (keys_of rs)) (sym is) (distinct_kept (key_of o t) rows apart) in
    ap (set found place) (made ∙ ap (λ (r : Row). (r.0, objects_with o.kind r.1 t)) at)
    ∙ place_written (λ os. objects_with o.kind os t) row p distinct
    ∙ ap (rows_at_key (key_of o t) (λ os. objects_with o.kind os t)) is
    ∙ put_at_key o t rows plain apart

-- ---- what becomes of the row

-- the row at the place is live if and only if the key has an object
live_there : (k : Datum) (rows found : List Row) (place : ℕ) (row : Row) → found ≡ with_key k rows → IsPlace k found place → row ≡ get_or found place row → is_live row ≡ not (is_empty (objects_at rows k))
live_there k rows found place row is p at =
    ap (λ (r : Row). is_live r) at
    ∙ ap (λ (os : List Datum). not (is_empty os)) (place_objects row p ∙ ap (λ rs. objects_at rs k) is ∙ objects_kept k rows)

-- a key that has an object has a row
pub live_stays : (k : Datum) (rows found : List Row) → found ≡ with_key k rows → not (is_empty (objects_at rows k)) ≡ true → found ≡ rows
live_stays k rows found is live =
    by_test (has_row rows k) _
    (λ there. is ∙ sym (key_there k rows there))
    (λ none. let empty : objects_at rows k ≡ [] = no_objects rows k none in absurd (false_not_true (sym (ap (λ (os : List Datum). not (is_empty os)) empty) ∙ live)))
  where
    false_not_true : false ≡ true → ⊥
    false_not_true e = true≢false (sym e)

-- what a look-up finds at a key that has a row, given the row at its place
found_there : (k : Datum) (rows found : List Row) (place : ℕ) (row : Row) → found ≡ with_key k rows → IsPlace k found place → row ≡ get_or found place row → has_row rows k ≡ true → lookup (is_same k) rows ≡ Some row.1
found_there k rows found place row is p at there =
    of (lookup (is_same k) rows) there
    ∙ ap Some (sym (ap (λ (r : Row). r.1) at ∙ place_objects row p ∙ ap (λ rs. objects_at rs k) is ∙ objects_kept k rows))
  where
    of : (f : Option (List Datum)) → is_some f ≡ true → f ≡ Some (unwrap_or f [])
    of None h = cc
    of (Some os) h = refl

-- a row is appended if and only if the key has none
with_old : (k : Datum) (rows : List Row) → has_row rows k ≡ true → length (with_key k rows) ≡ length rows
with_old k rows there = rw there refl

with_new : (k : Datum) (rows : List Row) → has_row rows k ≡ false → length (with_key k rows) ≡ length rows + 1
with_new k rows none = rw none (length-append rows ((k, []) ∷ []))

not_added : (k : Datum) (rows found : List Row) (before : ℕ) → found ≡ with_key k rows → before ≡ length rows → length found ≤ before → has_row rows k ≡ true
not_added k rows found before is count none =
    by_test (has_row rows k) _
    (λ there. there)
    (λ no. let more : length found ≡ length rows + 1 = ap length is ∙ with_new k rows no in absurd (omega (arith, count, more, none)))

added : (k : Datum) (rows found : List Row) (before : ℕ) → found ≡ with_key k rows → before ≡ length rows → before < length found → lookup (is_same k) rows ≡ None
added k rows found before is count more =
    by_test (has_row rows k) _
    (λ there. let same : length found ≡ length rows = ap length is ∙ with_old k rows there in absurd (omega (arith, count, more, same)))
    (λ no. of (lookup (is_same k) rows) no)
  where
    of : (f : Option (List Datum)) → is_some f ≡ false → f ≡ None
    of None h = refl
    of (Some os) h = cc

pub put_new : (k : Datum) (rows found : List Row) (before : ℕ) (replaces : Bool) → found ≡ with_key k rows → before ≡ length rows → before < length found → Done ≡ put_at replaces (lookup (is_same k) rows)
put_new k rows found before replaces is count more =
    ap (put_at replaces) (sym (added k rows found before is count more))

of_dead : (replaces : Bool) (os : List Datum) → not (is_empty os) ≡ false → Revived ≡ put_at replaces (Some os)
of_dead replaces [] dead = refl
of_dead replaces (t ∷ os) dead = cc

of_live : (replaces : Bool) (os : List Datum) → not (is_empty os) ≡ true → (if replaces then Done else Kept) ≡ put_at replaces (Some os)
of_live replaces [] live = cc
of_live replaces (t ∷ os) live = refl

pub put_dead : (k : Datum) (rows found : List Row) (place before : ℕ) (row : Row) (replaces : Bool) → found ≡ with_key k rows → IsPlace k found place → row ≡ get_or found place row → before ≡ length rows → length found ≤ before → is_live row ≡ false → Revived ≡ put_at replaces (lookup (is_same k) rows)
put_dead k rows found place before row replaces is p at count none dead =
    of_dead replaces row.1 dead
    ∙ ap (put_at replaces) (sym (found_there k rows found place row is p at (not_added k rows found before is count none)))

pub put_live : (k : Datum) (rows found : List Row) (place before : ℕ) (row : Row) (replaces : Bool) → found ≡ with_key k rows → IsPlace k found place → row ≡ get_or found place row → before ≡ length rows → length found ≤ before → is_live row ≡ true → (if replaces then Done else Kept) ≡ put_at replaces (lookup (is_same k) rows)
put_live k rows found place before row replaces is p at count none live =
    of_live replaces row.1 live
    ∙ ap (put_at replaces) (sym (found_there k rows found place row is p at (not_added k rows found before is count none)))

-- what became of the row, for rows that were seen as a slice
pub became : (k : Datum) (rows found slice : List Row) (place before : ℕ) (replaces : Bool) (put : Put) → ((key : Datum) (old : List Row) → slice ≡ with_key key old → IsPlace key slice place → before ≡ length old → put ≡ put_at replaces (lookup (is_same key) old)) → slice ≡ found → found ≡ with_key k rows → IsPlace k found place → before ≡ length rows → put ≡ put_at replaces (lookup (is_same k) rows)
became k rows found slice place before replaces put said seen is p count =
    said k rows (seen ∙ is) (subst (λ rs. IsPlace k rs place) (sym seen) p) count

-- a key whose object is kept has a row
kept_some : (replaces : Bool) (found : Option (List Datum)) → is_put (put_at replaces found) ≡ false → is_some found ≡ true
kept_some replaces None kept = cc
kept_some replaces (Some os) kept = refl

pub kept_rows : (k : Datum) (rows found : List Row) (replaces : Bool) → found ≡ with_key k rows → is_put (put_at replaces (lookup (is_same k) rows)) ≡ false → found ≡ rows
kept_rows k rows found replaces is kept =
    is ∙ sym (key_there k rows (kept_some replaces (lookup (is_same k) rows) kept))

-- writing back a live row as it was leaves the rows as they were
pub put_back : (k : Datum) (rows found : List Row) (place : ℕ) (row new : Row) → found ≡ with_key k rows → IsPlace k found place → row ≡ get_or found place row → new ≡ row → is_live row ≡ true → set found place new ≡ rows
put_back k rows found place row new is p at same live =
    ap (set found place) (same ∙ at ∙ place_row row p)
    ∙ place_set p.row p
    ∙ sym p.whole
    ∙ live_stays k rows found is (sym (live_there k rows found place row is p at) ∙ live)
