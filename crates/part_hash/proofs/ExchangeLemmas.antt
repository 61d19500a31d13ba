-- What is held of a key exchanged, and the row that goes.
use Rattle.std.proofs.Common.{◌≡◌, List, [], ◌∷◌, refl, ap, sym}
use Rattle.std.specs.Prelude.{Bool, true, false, not, if◌then◌else◌, filter}
use Rattle.std.proofs.lemmas.Bool.{true≢false}
use Rattle.term_core.specs.Datum.{Datum}
use Rattle.term_operand.specs.Order.{is_same}
use Rattle.part_core.specs.Rows.{Row, is_empty, is_live, rows_at_key}
use Rattle.part_core.proofs.KeyLemmas.{by_test}
use Rattle.part_rows.specs.Shown.{rows_exchanged}
use Rattle.part_engine.proofs.SetLemmas.{stays}

-- the row of the key stays if it is live
left_live : (k : Datum) (os : List Datum) (rows : List Row) → is_live (k, os) ≡ true → rows_at_key k (λ _. os) rows ≡ filter (stays k) (rows_at_key k (λ _. os) rows)
left_live k os [] live = refl
left_live k os (r ∷ rows) live =
    by_test (is_same k r.0) _
    (λ here. rw (here, live) (ap (λ rs. (r.0, os) ∷ rs) (left_live k os rows live)))
    (λ other. rw other (ap (λ rs. r ∷ rs) (left_live k os rows live)))

left_dead : (k : Datum) (rows : List Row) → filter (λ (r : Row). not (is_same k r.0)) rows ≡ filter (stays k) (rows_at_key k (λ _. []) rows)
left_dead k [] = refl
left_dead k (r ∷ rows) =
    by_test (is_same k r.0) _
    (λ here. rw here (left_dead k rows))
    (λ other. rw other (ap (λ rs. r ∷ rs) (left_dead k rows)))

-- without objects, the row stays dead if it is kept, and else it goes
pub exchanged_out : (k : Datum) (os : List Datum) (keeps : Bool) (rows : List Row) → is_empty os ≡ true → (if keeps then rows_at_key k (λ _. os) rows else filter (λ (r : Row). not (is_same k r.0)) rows) ≡ rows_exchanged k os keeps rows
exchanged_out k os true rows none = refl
exchanged_out k [] false rows none = left_dead k rows
exchanged_out k (t ∷ os) false rows none = absurd (true≢false (sym none))

-- a row that has objects stays
pub exchanged_in : (k : Datum) (os : List Datum) (keeps : Bool) (rows : List Row) → is_empty os ≡ false → rows_at_key k (λ _. os) rows ≡ rows_exchanged k os keeps rows
exchanged_in k os true rows some = refl
exchanged_in k os false rows some = left_live k os rows (ap not some)
