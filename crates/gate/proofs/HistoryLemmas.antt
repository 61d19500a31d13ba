-- How histories are continued, and whose entries are in them.
use Rattle.std.proofs.Common.{◌≡◌, ◌≢◌, ℕ, zero, suc, ◌+◌, map, arith, ◌⊎◌, inl, inr, ◌++◌, List, [], ◌∷◌, refl, ap, sym, ◌∙◌, Option, Some, None, ⊎_elim, ne_eqb}
use Rattle.std.proofs.lemmas.List.{append-nil, append_assoc, append_cancel_left}
use Rattle.std.proofs.lemmas.List.Elements.{filter-append}
use Rattle.std.specs.List.{range_with_len}
use Rattle.part_core.specs.Acts.{Act, Answer, History}
use Rattle.part_core.specs.Ops.{entries_of}
use Rattle.gate.specs.Views.{own, GoesOn}

-- entries of other sessions add no own entries
pub own_kept : (n : ℕ) (old more : History) → own n more ≡ [] → own n (old ++ more) ≡ own n old
own_kept n old more none = filter-append _ old more ∙ ap (λ (es : History). own n old ++ es) none ∙ append-nil (own n old)

-- the entry of one session's turn is not an own entry of another session
pub own_elsewhere : (n k : ℕ) (act : Act) (answer : Option Answer) → n ≢ k → own k (entries_of n act answer) ≡ []
own_elsewhere n k act None apart = refl
own_elsewhere n k act (Some answer) apart = rw (ne_eqb n k apart) refl

-- if all own entries were seen, none follows
pub own_rest : (n : ℕ) (seen rest : History) → own n (seen ++ rest) ≡ own n seen → own n rest ≡ []
own_rest n seen rest same = append_cancel_left (own n seen) (own n rest) [] (sym (filter-append _ seen rest) ∙ same ∙ sym (append-nil (own n seen)))

pub goes_on_more : (old log more : History) → GoesOn old log → GoesOn old (log ++ more)
goes_on_more old log more h = (h.0 ++ more, ap (λ (es : History). es ++ more) h.1 ∙ append_assoc old h.0 more)

-- of two beginnings of one history, one begins with the other
pub both_begin : (a b r s : History) → a ++ r ≡ b ++ s → GoesOn a b ⊎ GoesOn b a
both_begin [] b r s e = inl (b, refl)
both_begin (x ∷ a) [] r s e = inr (x ∷ a, refl)
both_begin (x ∷ a) (y ∷ b) r s e =
    let head : x ≡ y = cc in
    let tail : a ++ r ≡ b ++ s = cc in
    ⊎_elim
    (λ (h : GoesOn a b). inl (h.0, λ i. sym head i ∷ h.1 i))
    (λ (h : GoesOn b a). inr (h.0, λ i. head i ∷ h.1 i))
    (both_begin a b r s tail)

-- ---- numbers from 0 on

numbered_from : {X : Type 0} (f : ℕ → X) (a n : ℕ) → map f (range_with_len a (suc n)) ≡ map f (range_with_len a n) ++ f (a + n) ∷ []
numbered_from f a zero = ap (λ (k : ℕ). f k ∷ []) (omega arith)
numbered_from f a (suc n) =
    let next : (a + 1) + n ≡ a + suc n = omega arith in
    ap (λ (xs : List _). f a ∷ xs) (numbered_from f (a + 1) n ∙ ap (λ (k : ℕ). map f (range_with_len (a + 1) n) ++ f k ∷ []) next)

pub numbered_more : {X : Type 0} (f : ℕ → X) (n : ℕ) → map f (range_with_len 0 (n + 1)) ≡ map f (range_with_len 0 n) ++ f n ∷ []
numbered_more f n =
    let next : n + 1 ≡ suc n = omega arith in
    let first : 0 + n ≡ n = omega arith in
    ap (λ (k : ℕ). map f (range_with_len 0 k)) next ∙ numbered_from f 0 n ∙ ap (λ (k : ℕ). map f (range_with_len 0 n) ++ f k ∷ []) first
