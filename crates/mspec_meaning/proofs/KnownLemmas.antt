-- The values of the remaining slots.
use Rattle.std.proofs.Common.{◌≡◌, ℕ, suc, ◌+◌, ◌<◌, Option, Some, None, List, ◌∷◌, length, get_or, drop, sym, ◌∙◌, ap, drop-cons, add-one}
use Rattle.term_operand.specs.Operand.{operand_datum}
use Rattle.term_operand.specs.declared.operand.Operand.{Operand}
use Rattle.mspec_match.specs.Slots.{seen, known}

-- the remaining elements begin with the one at this place
pub split_at : {X : Type 0} (xs : List X) (i : ℕ) (x : X) → i < length xs → x ≡ get_or xs i x → drop i xs ≡ x ∷ drop (i + 1) xs
split_at xs i x h e = drop-cons xs i x h ∙ ap (λ y. y ∷ drop (suc i) xs) (sym e) ∙ ap (λ j. x ∷ drop j xs) (sym (add-one i))

-- the values of the remaining slots, at a free slot
pub known-free : {A : Type 0} (slots : List (Option (Operand A))) (i : ℕ) (slot : Option (Operand A)) → i < length slots → slot ≡ get_or slots i slot → slot ≡ None → known (seen (drop (i + 1) slots)) ≡ known (seen (drop i slots))
known-free slots i slot h is empty =
    sym (ap (λ l. known (seen l)) (split_at slots i slot h is) ∙ ap (λ x. known (seen (x ∷ drop (i + 1) slots))) empty)

pub known-bound : {A : Type 0} (slots : List (Option (Operand A))) (i : ℕ) (slot : Option (Operand A)) (part : Operand A) → i < length slots → slot ≡ get_or slots i slot → slot ≡ Some part → operand_datum part ∷ known (seen (drop (i + 1) slots)) ≡ known (seen (drop i slots))
known-bound slots i slot part h is filled =
    sym (ap (λ l. known (seen l)) (split_at slots i slot h is) ∙ ap (λ x. known (seen (x ∷ drop (i + 1) slots))) filled)
