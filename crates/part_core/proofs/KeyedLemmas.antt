-- Rows at one key: what is written there, by the objects that are there.
use Rattle.std.proofs.Common.{◌≡◌, List, [], ◌∷◌, refl, ap, sym, subst, ◌∙◌}
use Rattle.std.specs.Prelude.{true, false, Some, None, is_some, unwrap_or, IsTrue, filter}
use Rattle.std.specs.List.{IsDistinct, AllByRecursion}
use Rattle.std.specs.Map.{keys_of, lookup}
use Rattle.std.proofs.lemmas.Bool.{true≢false}
use Rattle.std.proofs.lemmas.Map.Keys.{IsDistinct-head, IsDistinct-tail}
use Rattle.term_core.specs.Datum.{Datum}
use Rattle.term_core.specs.Datum.Datum.{nil}
use Rattle.term_operand.specs.Order.{is_same}
use Rattle.mcode.specs.Machine.{field_of}
use Rattle.part_core.specs.declared.settings.Settings.{Settings}
use Rattle.part_core.specs.Settings.{is_object, key_of}
use Rattle.part_core.specs.Rows.{Row, has_row, objects_at, rows_at_key}
use Rattle.part_core.proofs.KeyLemmas.{by_test, same_is}
use Rattle.part_core.proofs.RowLemmas.{unwritten, apart}

-- the key of an object is the element at the key's position
pub object_key : (o : Settings) (t k : Datum) → field_of o.keypos t ≡ Some k → IsTrue (is_object o t) × (key_of o t ≡ k)
object_key o t k is = (ap is_some is, ap (λ f. unwrap_or f nil) is)

-- a look-up that finds nothing means that no row has the key
pub no_row : (k : Datum) (rows : List Row) → None ≡ lookup (is_same k) rows → has_row rows k ≡ false
no_row k rows none = ap is_some (sym none)

-- after the row of a key no other row has it
pub no_other : (k : Datum) (r : Row) (rows : List Row) → IsDistinct is_same (keys_of (r ∷ rows)) → is_same k r.0 ≡ true → has_row rows k ≡ false
no_other k r rows d there =
    let same : r.0 ≡ k = sym (same_is k r.0 there) in
    apart k rows (subst (λ (q : Datum). AllByRecursion (λ j. is_same q j ≡ false) (keys_of rows)) same (IsDistinct-head is_same r.0 (keys_of rows) d))

-- a key without a row has none among the rows that a filter finds
pub none_there : (k : Datum) (rows : List Row) → has_row rows k ≡ false → filter (λ r. is_same k r.0) rows ≡ []
none_there k [] none = refl
none_there k (r ∷ rows) none =
    by_test (is_same k r.0) _ (λ here. absurd (true≢false (rw here at none))) (λ other. rw other (none_there k rows (rw other at none)))

-- at a key that has at most one row, what is written is a function of its objects
pub written_of : (k : Datum) (f : List Datum → List Datum) (os : List Datum) (rows : List Row) → IsDistinct is_same (keys_of rows) → objects_at rows k ≡ os → rows_at_key k f rows ≡ rows_at_key k (λ _. f os) rows
written_of k f os [] d is = refl
written_of k f os (r ∷ rows) d is =
    by_test (is_same k r.0) _
    (λ there. let found : r.1 ≡ os = rw there at is in
    rw there (ap (λ (o : List Datum). (r.0, f o) ∷ rows_at_key k f rows) found ∙ ap (λ rs. (r.0, f os) ∷ rs) (unwritten k f rows (no_other k r rows d there) ∙ sym (unwritten k (λ _. f os) rows (no_other k r rows d there)))))
    (λ other. rw other (ap (λ rs. r ∷ rs) (written_of k f os rows (IsDistinct-tail is_same r.0 (keys_of rows) d) (rw other at is))))

-- of two writes at a key the last one counts
pub rewritten : (k : Datum) (f : List Datum → List Datum) (os : List Datum) (rows : List Row) → rows_at_key k (λ _. os) (rows_at_key k f rows) ≡ rows_at_key k (λ _. os) rows
rewritten k f os [] = refl
rewritten k f os (r ∷ rows) =
    by_test (is_same k r.0) _
    (λ there. rw there (ap (λ rs. (r.0, os) ∷ rs) (rewritten k f os rows)))
    (λ other. rw other (ap (λ rs. r ∷ rs) (rewritten k f os rows)))
