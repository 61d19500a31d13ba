-- How writing in a tree changes its rows.
use Rattle.std.proofs.Common.{◌≡◌, List, [], ◌∷◌, refl, ap, sym, ◌∙◌}
use Rattle.std.specs.Prelude.{Bool, true, false, not, Option, Some, None}
use Rattle.std.specs.List.{IsDistinct, AllByRecursion}
use Rattle.std.specs.List.Sorted.{IsStrictlySortedBy}
use Rattle.std.specs.Map.{keys_of, set_value}
use Rattle.std.specs.BTreeMap.{insert_entry}
use Rattle.std.specs.declared.cmp.Ordering.{Ordering}
use Rattle.std.specs.declared.cmp.Ordering.TheVariants.{Less, Equal, Greater}
use Rattle.std.specs.Ordering.{is_eq, match_ordering}
use Rattle.std.proofs.lemmas.Bool.{true≢false}
use Rattle.std.proofs.lemmas.Map.Keys.{IsDistinct-tail, IsDistinct-from_sorted}
use Rattle.std.proofs.lemmas.List.Elements.{All-weaker, All-from_recursion, recursion_from_All}
use Rattle.term_core.specs.Datum.{Datum}
use Rattle.term_core.specs.Order.{datum_cmp}
use Rattle.term_core.specs.OrderLaws.{datum_cmp_total}
use Rattle.term_operand.specs.Order.{is_same}
use Rattle.part_core.specs.declared.kind.TableKind.TheVariants.{OrderedSet}
use Rattle.part_core.specs.declared.settings.Settings.{Settings}
use Rattle.part_core.specs.Settings.{key_of}
use Rattle.part_core.specs.Rows.{Row, has_row, rows_at_key, with_object}
use Rattle.part_core.proofs.KeyLemmas.{by_test}
use Rattle.part_core.proofs.RowLemmas.{unwritten}
use Rattle.part_core.proofs.KeyedLemmas.{no_other}
use Rattle.part_rows.specs.declared.put.Put.TheVariants.{Kept}
use Rattle.part_rows.specs.Puts.{is_put, put_at}

-- ---- what is written at a key

-- if the key has no row, nothing is written
pub set_nowhere : (k : Datum) (os : List Datum) (rows : List Row) → has_row rows k ≡ false → set_value (is_same k) rows os ≡ rows
set_nowhere k os [] none = refl
set_nowhere k os (r ∷ rows) none =
    by_test (is_same k r.0) _
    (λ here. absurd (true≢false (rw here at none)))
    (λ other. rw other (ap (λ rs. r ∷ rs) (set_nowhere k os rows (rw other at none))))

-- ---- insertions

-- a key that is below all others has no row
none_below : (k : Datum) (rows : List Row) → AllByRecursion (λ l. datum_cmp k l ≡ Less) (keys_of rows) → has_row rows k ≡ false
none_below k [] below = refl
none_below k (r ∷ rows) below =
    let other : is_same k r.0 ≡ false = ap is_eq below.0 in rw other (none_below k rows below.1)

-- inserting at a key that has a row replaces its objects where it is
put_over : (k : Datum) (os : List Datum) (rows : List Row) → IsStrictlySortedBy datum_cmp (keys_of rows) → IsDistinct is_same (keys_of rows) → has_row rows k ≡ true → insert_entry datum_cmp rows k os ≡ rows_at_key k (λ _. os) rows
unfolding IsStrictlySortedBy
put_over k os [] s d there = cc
put_over k os (r ∷ rows) s d there =
    placed (put_over k os rows s.1 (IsDistinct-tail is_same r.0 (keys_of rows) d)) (datum_cmp k r.0) refl
  where
    further : datum_cmp k r.0 ≡ Less → AllByRecursion (λ l. datum_cmp k l ≡ Less) (keys_of rows)
    further less = recursion_from_All (λ l. datum_cmp k l ≡ Less) (keys_of rows) (All-weaker (λ l. datum_cmp r.0 l ≡ Less) (λ l. datum_cmp k l ≡ Less) (λ l h. datum_cmp_total.trans k r.0 l less h) (keys_of rows) (All-from_recursion (λ l. datum_cmp r.0 l ≡ Less) (keys_of rows) s.0))

    placed : (has_row rows k ≡ true → insert_entry datum_cmp rows k os ≡ rows_at_key k (λ _. os) rows) → (way : Ordering) → datum_cmp k r.0 ≡ way → match_ordering way ((k, os) ∷ r ∷ rows) ((r.0, os) ∷ rows) (r ∷ insert_entry datum_cmp rows k os) ≡ rows_at_key k (λ _. os) (r ∷ rows)
    placed more Less is =
        absurd (true≢false (sym there ∙ none_below k (r ∷ rows) (is, further is)))
    placed more Equal is =
        let here : is_same k r.0 ≡ true = ap is_eq is in
        rw here (ap (λ rs. (r.0, os) ∷ rs) (sym (unwritten k (λ _. os) rows (no_other k r rows d here))))
    placed more Greater is =
        let other : is_same k r.0 ≡ false = ap is_eq is in
        rw other (ap (λ rs. r ∷ rs) (more (rw other at there)))

with_there : (o : Settings) (t : Datum) (rows : List Row) → o.kind ≡ OrderedSet → has_row rows (key_of o t) ≡ true → with_object o t rows ≡ rows_at_key (key_of o t) (λ os. t ∷ []) rows
with_there o t rows kind there = rw (there, kind) refl

with_new : (o : Settings) (t : Datum) (rows : List Row) → o.kind ≡ OrderedSet → has_row rows (key_of o t) ≡ false → with_object o t rows ≡ insert_entry datum_cmp rows (key_of o t) (t ∷ [])
with_new o t rows kind none = rw (none, kind) refl

-- inserting an entry into a tree inserts an object into its rows
pub put_in : (o : Settings) (t : Datum) (rows : List Row) → o.kind ≡ OrderedSet → IsStrictlySortedBy datum_cmp (keys_of rows) → insert_entry datum_cmp rows (key_of o t) (t ∷ []) ≡ with_object o t rows
put_in o t rows kind s =
    by_test (has_row rows (key_of o t)) _
    (λ there. put_over (key_of o t) (t ∷ []) rows s (IsDistinct-from_sorted datum_cmp (keys_of rows) s) there ∙ sym (with_there o t rows kind there))
    (λ none. sym (with_new o t rows kind none))

-- ---- what becomes of a row

-- what replaces is always inserted
pub always_put : (found : Option (List Datum)) → is_put (put_at true found) ≡ true
always_put None = refl
always_put (Some []) = refl
always_put (Some (t ∷ os)) = refl

pub none_stays : (replaces : Bool) (found : Option (List Datum)) → replaces ≡ true → false ≡ not (is_put (put_at replaces found))
none_stays replaces found all = rw all (ap not (sym (always_put found)))

-- an object that is not replaced is kept
pub stays_there : (replaces : Bool) (found : Option (List Datum)) → not (is_put (put_at replaces found)) ≡ true → Kept ≡ put_at replaces found
stays_there replaces None stays = absurd (true≢false (sym stays))
stays_there replaces (Some []) stays = absurd (true≢false (sym stays))
stays_there true (Some (t ∷ os)) stays = absurd (true≢false (sym stays))
stays_there false (Some (t ∷ os)) stays = refl

-- if the row does not keep its object, an insertion makes of it what a replacing one makes
pub goes_over : (replaces : Bool) (found : Option (List Datum)) → not (is_put (put_at replaces found)) ≡ false → put_at true found ≡ put_at replaces found
goes_over replaces None goes = refl
goes_over replaces (Some []) goes = refl
goes_over true (Some (t ∷ os)) goes = refl
goes_over false (Some (t ∷ os)) goes = absurd (true≢false goes)
