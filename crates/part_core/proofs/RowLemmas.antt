-- Rows: what a key finds in them, and what writing leaves of keys and their order.
use Rattle.std.proofs.Common.{◌≡◌, List, [], ◌∷◌, ◌++◌, refl, ap, sym, ◌∙◌, map}
use Rattle.std.specs.Prelude.{Bool, true, false, not, if◌then◌else◌, Option, Some, None, option_map, unwrap_or, is_some, filter}
use Rattle.std.specs.List.{IsDistinct, AllByRecursion, list_any}
use Rattle.std.specs.List.Sorted.{IsStrictlySortedBy}
use Rattle.std.specs.Map.{keys_of, lookup}
use Rattle.std.specs.BTreeMap.{insert_entry}
use Rattle.std.specs.declared.cmp.Ordering.{Ordering}
use Rattle.std.specs.declared.cmp.Ordering.TheVariants.{Less, Equal, Greater}
use Rattle.std.specs.Ordering.{is_eq, match_ordering}
use Rattle.std.proofs.lemmas.Bool.{true≢false}
use Rattle.std.proofs.lemmas.List.{map-append}
use Rattle.std.proofs.lemmas.List.Elements.{All-from_recursion, recursion_from_All, All-weaker}
use Rattle.std.proofs.lemmas.Map.Entries.{lookup-filter-values, lookup-filter-keys, option_filter}
use Rattle.std.proofs.lemmas.Map.Keys.{IsDistinct-push}
use Rattle.std.proofs.lemmas.Map.Made.{is_some-lookup}
use Rattle.std.proofs.lemmas.Map.Views.{All-keys-insert_entry}
use Rattle.term_core.specs.Datum.{Datum}
use Rattle.term_core.specs.Order.{datum_cmp}
use Rattle.term_core.specs.OrderLaws.{datum_cmp_total}
use Rattle.term_operand.specs.Order.{is_same}
use Rattle.part_core.specs.declared.kind.TableKind.{TableKind}
use Rattle.part_core.specs.declared.settings.Settings.{Settings}
use Rattle.part_core.specs.Settings.{is_ordered, key_of}
use Rattle.part_core.specs.Rows.{Row, is_empty, is_live, objects_at, has_row, objects_with, rows_at_key, with_new_row, with_object}
use Rattle.part_core.proofs.KeyLemmas.{by_test, same_keys, same_is, alike, same_not, greater_below}

-- rows whose objects are replaced by a function of the key and the objects
abbrev pub rows_by : (Datum → List Datum → List Datum) → List Row → List Row
rows_by g rows = map (λ r. (r.0, g r.0 r.1)) rows

pub lookup_by : (g : Datum → List Datum → List Datum) (k : Datum) (rows : List Row) → lookup (is_same k) (rows_by g rows) ≡ option_map (g k) (lookup (is_same k) rows)
lookup_by g k [] = refl
lookup_by g k (r ∷ rows) =
    by_test (is_same k r.0) _ (λ holds. rw holds (ap (λ j. Some (g j r.1)) (sym (same_is k r.0 holds)))) (λ fails. rw fails (lookup_by g k rows))

pub keys_by : (g : Datum → List Datum → List Datum) (rows : List Row) → keys_of (rows_by g rows) ≡ keys_of rows
keys_by g [] = refl
keys_by g (r ∷ rows) = ap (λ ks. r.0 ∷ ks) (keys_by g rows)

unwrapped : (f : List Datum → List Datum) (found : Option (List Datum)) → (is_some found ≡ false → f [] ≡ []) → unwrap_or (option_map f found) [] ≡ f (unwrap_or found [])
unwrapped f None empty = sym (empty refl)
unwrapped f (Some os) empty = refl

pub objects_by : (g : Datum → List Datum → List Datum) (k : Datum) (rows : List Row) → (has_row rows k ≡ false → g k [] ≡ []) → objects_at (rows_by g rows) k ≡ g k (objects_at rows k)
objects_by g k rows empty =
    rw (lookup_by g k rows) (unwrapped (g k) (lookup (is_same k) rows) empty)

-- a key without a row is neither the first row's nor a later one's
none_here : (j : Datum) (r : Row) (rows : List Row) → has_row (r ∷ rows) j ≡ false → (is_same j r.0 ≡ false) × (has_row rows j ≡ false)
none_here j r rows h =
    by_test (is_same j r.0) _ (λ holds. absurd (true≢false (rw holds at h))) (λ fails. (fails, rw fails at h))

pub no_objects : (rows : List Row) (k : Datum) → has_row rows k ≡ false → objects_at rows k ≡ []
no_objects rows k h = of (lookup (is_same k) rows) h
  where
    of : (found : Option (List Datum)) → is_some found ≡ false → unwrap_or found [] ≡ []
    of None h = refl
    of (Some os) h = cc

-- a change in rows after one of another key is found past that row
past : (j : Datum) (os : List Datum) (k : Datum) (r : Row) (rest rows : List Row) → is_same j r.0 ≡ false → lookup (is_same k) rest ≡ (if is_same k j then Some os else lookup (is_same k) rows) → lookup (is_same k) (r ∷ rest) ≡ (if is_same k j then Some os else lookup (is_same k) (r ∷ rows))
past j os k r rest rows apart h =
    by_test (is_same k r.0) _
    (λ holds. let other : is_same k j ≡ false = same_not j k r.0 apart holds in rw (holds, other) refl)
    (λ fails. rw fails h)

lookup_behind : (j : Datum) (os : List Datum) (k : Datum) (rows : List Row) → has_row rows j ≡ false → lookup (is_same k) (rows ++ (j, os) ∷ []) ≡ (if is_same k j then Some os else lookup (is_same k) rows)
lookup_behind j os k [] none = refl
lookup_behind j os k (r ∷ rows) none =
    let n = none_here j r rows none in past j os k r _ rows n.0 (lookup_behind j os k rows n.1)

lookup_inserted : (j : Datum) (os : List Datum) (k : Datum) (rows : List Row) → has_row rows j ≡ false → lookup (is_same k) (insert_entry datum_cmp rows j os) ≡ (if is_same k j then Some os else lookup (is_same k) rows)
lookup_inserted j os k [] none = refl
lookup_inserted j os k (r ∷ rows) none =
    let n = none_here j r rows none in placed (datum_cmp j r.0) n.0 (past j os k r _ rows n.0 (lookup_inserted j os k rows n.1))
  where
    placed : (way : Ordering) → is_eq way ≡ false → lookup (is_same k) (r ∷ insert_entry datum_cmp rows j os) ≡ (if is_same k j then Some os else lookup (is_same k) (r ∷ rows)) → lookup (is_same k) (match_ordering way ((j, os) ∷ r ∷ rows) ((r.0, os) ∷ rows) (r ∷ insert_entry datum_cmp rows j os)) ≡ (if is_same k j then Some os else lookup (is_same k) (r ∷ rows))
    placed Less apart h = refl
    placed Equal apart h = cc
    placed Greater apart h = h

pub lookup_new : (kind : TableKind) (j : Datum) (os : List Datum) (k : Datum) (rows : List Row) → has_row rows j ≡ false → lookup (is_same k) (with_new_row kind (j, os) rows) ≡ (if is_same k j then Some os else lookup (is_same k) rows)
lookup_new kind j os k rows none =
    by_test (is_ordered kind) _ (λ holds. rw holds (lookup_inserted j os k rows none)) (λ fails. rw fails (lookup_behind j os k rows none))

-- the objects of key j after the object t is inserted
abbrev with_put : Settings → Datum → Datum → List Datum → List Datum
with_put o t j os = if is_same (key_of o t) j then objects_with o.kind os t else os

put_there : (o : Settings) (t : Datum) (rows : List Row) (k : Datum) → has_row rows (key_of o t) ≡ true → objects_at (rows_at_key (key_of o t) (λ os. objects_with o.kind os t) rows) k ≡ with_put o t k (objects_at rows k)
put_there o t rows k there =
    objects_by (with_put o t) k rows (λ none. by_test (is_same (key_of o t) k) _ (λ holds. absurd (true≢false (sym there ∙ sym (alike (has_row rows) _ _ holds) ∙ none))) (λ fails. rw fails refl))

put_new : (o : Settings) (t : Datum) (rows : List Row) (k : Datum) → has_row rows (key_of o t) ≡ false → objects_at (with_new_row o.kind (key_of o t, objects_with o.kind [] t) rows) k ≡ with_put o t k (objects_at rows k)
put_new o t rows k none =
    rw (lookup_new o.kind (key_of o t) (objects_with o.kind [] t) k rows none, same_keys.symm k (key_of o t)) (by_test (is_same (key_of o t) k) _ (λ holds. rw (holds, no_objects rows k (alike (has_row rows) _ _ holds ∙ none)) refl) (λ fails. rw fails refl))

-- an object that was inserted is found at its key, and other keys have what they had
pub objects_inserted : (o : Settings) (t : Datum) (rows : List Row) (k : Datum) → objects_at (with_object o t rows) k ≡ (if is_same (key_of o t) k then objects_with o.kind (objects_at rows k) t else objects_at rows k)
objects_inserted o t rows k =
    by_test (has_row rows (key_of o t)) _ (λ there. rw there (put_there o t rows k there)) (λ none. rw none (put_new o t rows k none))

-- a row of a new key keeps the keys apart, and those of an ordered set in order
pub keys_new_distinct : (j : Datum) (os : List Datum) (rows : List Row) → IsDistinct is_same (keys_of rows) → has_row rows j ≡ false → IsDistinct is_same (keys_of (rows ++ (j, os) ∷ []))
keys_new_distinct j os rows d none =
    rw (map-append (λ (r : Row). r.0) rows ((j, os) ∷ [])) (IsDistinct-push same_keys (keys_of rows) j d (sym (is_some-lookup (is_same j) rows) ∙ none))

pub keys_new_rising : (j : Datum) (os : List Datum) (rows : List Row) → IsStrictlySortedBy datum_cmp (keys_of rows) → IsStrictlySortedBy datum_cmp (keys_of (insert_entry datum_cmp rows j os))
unfolding IsStrictlySortedBy
keys_new_rising j os [] s = (tt, tt)
keys_new_rising j os (r ∷ rows) s =
    placed (keys_new_rising j os rows s.1) (datum_cmp j r.0) refl
  where
    behind : datum_cmp j r.0 ≡ Less → AllByRecursion (λ l. datum_cmp j l ≡ Less) (keys_of rows)
    behind less = recursion_from_All (λ l. datum_cmp j l ≡ Less) (keys_of rows) (All-weaker (λ l. datum_cmp r.0 l ≡ Less) (λ l. datum_cmp j l ≡ Less) (λ l h. datum_cmp_total.trans j r.0 l less h) (keys_of rows) (All-from_recursion (λ l. datum_cmp r.0 l ≡ Less) (keys_of rows) s.0))

    further : datum_cmp r.0 j ≡ Less → AllByRecursion (λ l. datum_cmp r.0 l ≡ Less) (keys_of (insert_entry datum_cmp rows j os))
    further less = recursion_from_All (λ l. datum_cmp r.0 l ≡ Less) (keys_of (insert_entry datum_cmp rows j os)) (All-keys-insert_entry datum_cmp j os (λ l. datum_cmp r.0 l ≡ Less) rows (All-from_recursion (λ l. datum_cmp r.0 l ≡ Less) (keys_of rows) s.0) less)

    placed : IsStrictlySortedBy datum_cmp (keys_of (insert_entry datum_cmp rows j os)) → (way : Ordering) → datum_cmp j r.0 ≡ way → IsStrictlySortedBy datum_cmp (keys_of (match_ordering way ((j, os) ∷ r ∷ rows) ((r.0, os) ∷ rows) (r ∷ insert_entry datum_cmp rows j os)))
    placed more Less is = ((is, behind is), s)
    placed more Equal is = s
    placed more Greater is = (further (greater_below j r.0 is), more)

-- a look-up finds the same with dead rows as without
pub objects_live : (rows : List Row) (k : Datum) → IsDistinct is_same (keys_of rows) → objects_at (filter is_live rows) k ≡ objects_at rows k
objects_live rows k d =
    rw (lookup-filter-values same_keys (λ os. not (is_empty os)) k rows d) (of (lookup (is_same k) rows))
  where
    of : (found : Option (List Datum)) → unwrap_or (option_filter (λ os. not (is_empty os)) found) [] ≡ unwrap_or found []
    of None = refl
    of (Some []) = refl
    of (Some (t ∷ os)) = refl

-- a key that has a row is among those that pass a test of keys exactly where it passes
pub among_passing : (c : Datum → Bool) (rows : List Row) (k : Datum) → has_row rows k ≡ true → list_any (is_same k) (keys_of (filter (λ r. c r.0) rows)) ≡ c k
among_passing c rows k there =
    sym (is_some-lookup (is_same k) (filter (λ r. c r.0) rows)) ∙ ap is_some (lookup-filter-keys (is_same k) c (c k) (λ j h. alike c k j h) rows) ∙ of (c k) (lookup (is_same k) rows) there
  where
    of : (b : Bool) (found : Option (List Datum)) → is_some found ≡ true → is_some (if b then found else None) ≡ b
    of true found h = h
    of false found h = refl

-- rows without the key stay as they are
pub unwritten : (k : Datum) (f : List Datum → List Datum) (rows : List Row) → has_row rows k ≡ false → rows_at_key k f rows ≡ rows
unwritten k f [] none = refl
unwritten k f (r ∷ rows) none =
    by_test (is_same k r.0) _ (λ holds. absurd (true≢false (rw holds at none))) (λ fails. rw fails (ap (λ rs. r ∷ rs) (unwritten k f rows (rw fails at none))))

-- a key that is equal to none of the rows' keys has no row
pub apart : (k : Datum) (rows : List Row) → AllByRecursion (λ j. is_same k j ≡ false) (keys_of rows) → has_row rows k ≡ false
apart k [] h = refl
apart k (r ∷ rows) h = rw h.0 (apart k rows h.1)
