-- An object put in.
use Rattle.std.proofs.Common.{◌≡◌, ℕ, List, [], ◌∷◌, ◌++◌, refl, ap, sym, ◌∙◌, length, arith}
use Rattle.std.specs.Prelude.{Bool, true, false, Some, if◌then◌else◌}
use Rattle.std.specs.List.{IsDistinct}
use Rattle.std.specs.Map.{keys_of}
use Rattle.std.proofs.lemmas.Bool.{true≢false}
use Rattle.std.proofs.lemmas.List.{length-map}
use Rattle.term_core.specs.Datum.{Datum}
use Rattle.term_operand.specs.Order.{is_same}
use Rattle.part_core.specs.declared.kind.TableKind.{TableKind}
use Rattle.part_core.specs.declared.kind.TableKind.TheVariants.{Set, OrderedSet, Bag, DuplicateBag}
use Rattle.part_core.specs.declared.settings.Settings.{Settings}
use Rattle.part_core.specs.Settings.{is_ordered, key_of}
use Rattle.part_core.specs.Rows.{Row, is_live, has_row, objects_at, objects_with, rows_at_key, with_object}
use Rattle.part_core.specs.After.{slots_after}
use Rattle.part_core.proofs.AfterLemmas.{slots_same}
use Rattle.part_core.proofs.KeyLemmas.{by_test}
use Rattle.part_core.proofs.KeyedLemmas.{written_of}
use Rattle.part_rows.specs.declared.put.Put.TheVariants.{Revived, Done}
use Rattle.part_rows.specs.Puts.{put_at}

-- inserting an object changes the objects of its key's row
pub put_there : (o : Settings) (t : Datum) (rows : List Row) → has_row rows (key_of o t) ≡ true → IsDistinct is_same (keys_of rows) → rows_at_key (key_of o t) (λ _. objects_with o.kind (objects_at rows (key_of o t)) t) rows ≡ with_object o t rows
put_there o t rows there apart =
    sym (written_of (key_of o t) (λ os. objects_with o.kind os t) (objects_at rows (key_of o t)) rows apart refl) ∙ rw there refl

-- where the key has no row, it gets one
pub put_new : (o : Settings) (t : Datum) (rows : List Row) → has_row rows (key_of o t) ≡ false → is_ordered o.kind ≡ false → rows ++ (key_of o t, t ∷ []) ∷ [] ≡ with_object o t rows
put_new o t rows none plain = rw (none, plain) (ap (λ (os : List Datum). rows ++ (key_of o t, os) ∷ []) (sym (one o.kind)))
  where
    one : (kind : TableKind) → objects_with kind [] t ≡ t ∷ []
    one Set = refl
    one OrderedSet = refl
    one Bag = refl
    one DuplicateBag = refl

-- a row that was written back as it was
as_they_were : (k : Datum) (rows : List Row) → rows_at_key k (λ os. os) rows ≡ rows
as_they_were k [] = refl
as_they_were k (r ∷ rows) =
    by_test (is_same k r.0) _
    (λ here. rw here (ap (λ rs. r ∷ rs) (as_they_were k rows)))
    (λ other. rw other (ap (λ rs. r ∷ rs) (as_they_were k rows)))

pub same_objects : (k : Datum) (rows : List Row) → IsDistinct is_same (keys_of rows) → rows_at_key k (λ _. objects_at rows k) rows ≡ rows
same_objects k rows apart = sym (written_of k (λ os. os) (objects_at rows k) rows apart refl) ∙ as_they_were k rows

pub revived_at : (k : Datum) (os : List Datum) (replaces : Bool) → is_live (k, os) ≡ false → Revived ≡ put_at replaces (Some os)
revived_at k [] replaces dead = refl
revived_at k (t ∷ os) replaces dead = absurd (true≢false dead)

pub done_at : (k : Datum) (os : List Datum) (replaces : Bool) → is_live (k, os) ≡ true → replaces ≡ true → Done ≡ put_at replaces (Some os)
done_at k [] replaces live all = absurd (true≢false (sym live))
done_at k (t ∷ os) replaces live all = rw all refl

-- ---- slots

pub slots_written : (k : Datum) (os : List Datum) (b : Bool) (rows : List Row) (slots : ℕ) → slots ≡ slots_after Set (length rows) (length (if b then rows_at_key k (λ _. os) rows else rows)) slots
slots_written k os true rows slots =
    sym (slots_same Set (length rows) (length (rows_at_key k (λ _. os) rows)) slots (omega (arith, length-map {B = Row} rows (λ (r : Row). (r.0, if is_same k r.0 then os else r.1)))))
slots_written k os false rows slots = sym (slots_same Set (length rows) (length rows) slots (omega arith))
