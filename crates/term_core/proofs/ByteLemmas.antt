-- Rows of bytes with zeros after them.
use Rattle.std.proofs.Common.{◌≡◌, ℕ, zero, suc, ◌+◌, ◌<◌, ◌≤◌, List, [], ◌∷◌, ◌++◌, length, get_or, set, take, replicate, refl, ap, sym, ◌∙◌, subst, arith, add-one, length-append, length-take}
use Rattle.std.proofs.lemmas.List.{take-replicate, take-take, take_at, length-replicate}
use Rattle.std.specs.Str.{IsUtf8}
use Rattle.term_core.specs.Term.{padded, IsShortText, IsMiddleText}

set_zero : (n m i : ℕ) (bs : List ℕ) → i < n → i < length bs → n ≤ m → set (take n (take i bs ++ replicate m 0)) i (get_or bs i 0) ≡ take n (take (suc i) bs ++ replicate m 0)
set_zero zero m i bs within there room = absurd (omega arith)
set_zero (suc n) m i [] within there room = absurd (omega arith)
set_zero (suc n) zero zero (b ∷ bs) within there room = absurd (omega arith)
set_zero (suc n) (suc m) zero (b ∷ bs) within there room =
    ap (λ zs. b ∷ zs) (take-replicate n m 0 (omega arith) ∙ sym (take-replicate n (suc m) 0 (omega arith)))
set_zero (suc n) m (suc i) (b ∷ bs) within there room =
    ap (λ zs. b ∷ zs) (set_zero n m i bs (omega arith) (omega arith) (omega arith))

-- a row of zeros holds no bytes yet
pub padded_none : (n : ℕ) (bs : List ℕ) → replicate n 0 ≡ padded n (take 0 bs)
padded_none n bs = sym (take-replicate n n 0 (omega arith))

-- one more byte in its place
pub padded_more : (n i : ℕ) (bs : List ℕ) → i < n → i < length bs → set (padded n (take i bs)) i (get_or bs i 0) ≡ padded n (take (i + 1) bs)
padded_more n i bs within there = rw add-one (set_zero n n i bs within there (omega arith))

pub length_padded : (n : ℕ) (bs : List ℕ) → length (padded n bs) ≡ n
length_padded n bs =
    simp (length-take, length-append, length-replicate) (omega arith)

-- the bytes before the zeros
pub front_padded : (n : ℕ) (bs : List ℕ) → length bs ≤ n → take (length bs) (padded n bs) ≡ bs
front_padded n bs within =
    take-take (length bs) n (bs ++ replicate n 0) within ∙ take_at bs (replicate n 0) (length bs) refl

-- a text with zeros after it is kept in its term
pub padded-IsShortText : (bs : List ℕ) → length bs ≤ 14 → IsUtf8 bs → IsShortText (length bs) (padded 14 bs)
padded-IsShortText bs within utf8 =
    let front = front_padded 14 bs within in
    (within, ap (padded 14) (sym front), subst IsUtf8 (sym front) utf8)

-- a text that has no room in its term is kept in one block
pub padded-IsMiddleText : (bs : List ℕ) → 14 < length bs → length bs ≤ 32 → IsUtf8 bs → IsMiddleText (length bs) (padded 32 bs)
padded-IsMiddleText bs long within utf8 =
    let front = front_padded 32 bs within in
    (omega (arith, ap length front), within, subst IsUtf8 (sym front) utf8)
