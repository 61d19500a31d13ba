-- Exchanging the objects of a key, and the row that is removed.
use Rattle.std.proofs.Common.{◌≡◌, ℕ, List, ◌∷◌, ◌++◌, refl, ap, sym, subst, ◌∙◌, set, get_or}
use Rattle.std.specs.Prelude.{true, false, if◌then◌else◌, filter}
use Rattle.std.specs.List.{IsDistinct}
use Rattle.std.specs.Map.{keys_of}
use Rattle.std.proofs.lemmas.List.Elements.{filter-append}
use Rattle.term_core.specs.Datum.{Datum}
use Rattle.term_operand.specs.Order.{is_same}
use Rattle.part_core.specs.Rows.{Row, is_live, has_row, rows_at_key}
use Rattle.part_rows.specs.Shown.{rows_exchanged}
use Rattle.part_plain.specs.Places.{IsPlace}
use Rattle.part_plain.proofs.PlaceLemmas.{none_behind, place_row, place_set, written_at}
use Rattle.part_engine.proofs.SetLemmas.{stays, others_stay}

-- the rows without that of the key, if it is dead
without_dead : (k : Datum) (before : List Row) (row : Row) (after : List Row) → has_row before k ≡ false → is_same k row.0 ≡ true → has_row after k ≡ false → filter (stays k) (before ++ row ∷ after) ≡ before ++ (if is_live row then row ∷ after else after)
without_dead k before row after first there behind =
    filter-append (stays k) before (row ∷ after)
    ∙ ap (λ rs. rs ++ filter (stays k) (row ∷ after)) (others_stay k before first)
    ∙ ap (λ rs. before ++ rs) rest
  where
    rest : filter (stays k) (row ∷ after) ≡ (if is_live row then row ∷ after else after)
    rest = rw (there, others_stay k after behind) refl

-- if the row is kept, the exchange replaces the objects at the key's place
pub exchanged_kept : {k : Datum} {rows : List Row} {place : ℕ} (os : List Datum) (row new : Row) → IsPlace k rows place → row ≡ get_or rows place row → new ≡ (row.0, os) → IsDistinct is_same (keys_of rows) → set rows place new ≡ rows_exchanged k os true rows
exchanged_kept {k} {rows} {place} os row new p at made apart =
    place_set new p
    ∙ ap (λ (r : Row). p.before ++ r ∷ p.after) (made ∙ ap (λ (r : Row). (r.0, os)) (at ∙ place_row row p))
    ∙ sym (written_at k (λ _. os) p.before p.row p.after (subst (λ rs. IsDistinct is_same (keys_of rs)) p.whole apart) p.first p.there)
    ∙ ap (rows_at_key k (λ _. os)) (sym p.whole)

-- if the row isn't kept and has no objects left, the exchange removes it
pub exchanged_left : {k : Datum} {rows : List Row} {place : ℕ} (os : List Datum) (row new : Row) (left : List Row) → (p : IsPlace k rows place) → row ≡ get_or rows place row → new ≡ (row.0, os) → IsDistinct is_same (keys_of rows) → left ≡ p.before ++ (if is_live new then new ∷ p.after else p.after) → left ≡ rows_exchanged k os false rows
exchanged_left {k} {rows} {place} os row new left p at made apart is =
    let same : new ≡ (p.row.0, os) = made ∙ ap (λ (r : Row). (r.0, os)) (at ∙ place_row row p) in
    let distinct : IsDistinct is_same (keys_of (p.before ++ p.row ∷ p.after)) = subst (λ rs. IsDistinct is_same (keys_of rs)) p.whole apart in
    is
    ∙ ap (λ (r : Row). p.before ++ (if is_live r then r ∷ p.after else p.after)) same
    ∙ sym (without_dead k p.before (p.row.0, os) p.after p.first p.there (none_behind k p.before p.row p.after distinct p.there))
    ∙ ap (filter (stays k)) (sym (ap (rows_at_key k (λ _. os)) p.whole ∙ written_at k (λ _. os) p.before p.row p.after distinct p.first p.there))
