-- Which terms are the same.
use Rattle.std.proofs.Common.{◌≡◌, ℕ, zero, suc, ◌<◌, ◌≤◌, true, false, List, [], ◌∷◌, length, get_or, take, drop, refl, ap, sym, ◌∙◌, arith, true≢false}
use Rattle.std.specs.declared.cmp.Ordering.{Ordering}
use Rattle.std.specs.declared.cmp.Ordering.TheVariants.{Less, Equal, Greater}
use Rattle.std.specs.Prelude.{Bool, nat_eq}
use Rattle.std.specs.Cmp.Lexicographic.{pointwise, same_text}
use Rattle.std.specs.Ordering.{is_eq}
use Rattle.std.proofs.Math.Utf8.{encodes}
use Rattle.std.proofs.lemmas.Bool.{eq-eqb}
use Rattle.std.proofs.lemmas.Str.{encodes-chars}
use Rattle.std.specs.Str.{IsUtf8, chars}
use Rattle.term_core.specs.Datum.{Datum, Items, items_of, item_count}
use Rattle.term_core.specs.Datum.Datum.{atom, tuple}
use Rattle.term_core.specs.Order.{datum_cmp, is_same}
use Rattle.term_core.specs.OrderLaws.{datum_cmp-equal, datum_cmp-same}
use Rattle.term_core.specs.Term.{padded, IsShortText}
use Rattle.term_core.proofs.ByteLemmas.{length_padded}
use Rattle.term_core.proofs.LimitLemmas.{item_count-items_of}
use Rattle.term_core.proofs.MapLemmas.{same_terms}
use Rattle.term_core.proofs.RowLemmas.{drop_at}

-- equal terms are the same
pub itself : (a b : Datum) → a ≡ b → is_same a b ≡ true
itself a b e = ap is_eq (datum_cmp-same e)

not_equal : (o : Ordering) → (o ≡ Equal → ⊥) → is_eq o ≡ false
not_equal Less h = refl
not_equal Equal h = absurd (h refl)
not_equal Greater h = refl

-- different terms are not the same
pub differ : (a b : Datum) → (a ≡ b → ⊥) → is_same a b ≡ false
differ a b h = not_equal (datum_cmp a b) (λ e. h (datum_cmp-equal a b e))

apart : (a b : Datum) → is_same a b ≡ false → a ≡ b → ⊥
apart a b other e = true≢false (sym (itself a b e) ∙ other)

tuple_inner : {a b : Items} → tuple a ≡ tuple b → a ≡ b
tuple_inner {a} {b} e = cc

-- equal tuples have equal elements at each place
element_same : (xs ys : List Datum) (i : ℕ) (x y : Datum) → i < length xs → length xs ≡ length ys → x ≡ get_or xs i x → y ≡ get_or ys i y → items_of xs ≡ items_of ys → x ≡ y
element_same [] ys i x y there size ex ey e = absurd (omega arith)
element_same (v ∷ xs) [] i x y there size ex ey e = absurd (omega arith)
element_same (v ∷ xs) (w ∷ ys) zero x y there size ex ey e =
    let first : v ≡ w = cc in ex ∙ first ∙ sym ey
element_same (v ∷ xs) (w ∷ ys) (suc i) x y there size ex ey e =
    let rest : items_of xs ≡ items_of ys = cc in element_same xs ys i x y (omega arith) (omega arith) ex ey rest

-- tuples of two sizes differ
pub sizes_differ : (xs ys : List Datum) → (length xs ≡ length ys → ⊥) → is_same (tuple (items_of xs)) (tuple (items_of ys)) ≡ false
sizes_differ xs ys h =
    differ (tuple (items_of xs)) (tuple (items_of ys)) (λ e. h (sym (item_count-items_of xs) ∙ ap item_count (tuple_inner e) ∙ item_count-items_of ys))

-- tuples with different elements at one place differ
pub tuples_differ : (xs ys : List Datum) (i : ℕ) (x y : Datum) → i < length xs → length xs ≡ length ys → x ≡ get_or xs i x → y ≡ get_or ys i y → is_same x y ≡ false → is_same (tuple (items_of xs)) (tuple (items_of ys)) ≡ false
tuples_differ xs ys i x y there size ex ey other =
    differ (tuple (items_of xs)) (tuple (items_of ys)) (λ e. apart x y other (element_same xs ys i x y there size ex ey (tuple_inner e)))

-- equal rests of tuples with equal elements before them are equal
pub one_before : (xs ys : List Datum) (i : ℕ) (x y : Datum) → i < length xs → length xs ≡ length ys → x ≡ get_or xs i x → y ≡ get_or ys i y → is_same x y ≡ true → drop (suc i) xs ≡ drop (suc i) ys → drop i xs ≡ drop i ys
one_before xs ys i x y there size ex ey same rest =
    let in_ys : i < length ys = omega arith in
    drop_at xs i x there ex
    ∙ ap (λ z. z ∷ drop (suc i) xs) (same_terms x y same)
    ∙ ap (λ zs. y ∷ zs) rest
    ∙ sym (drop_at ys i y in_ys ey)

taken : (n : ℕ) (ys : List ℕ) → n ≤ length ys → length (take n ys) ≡ n
taken zero ys h = refl
taken (suc n) [] h = absurd (omega arith)
taken (suc n) (b ∷ ys) h = ap suc (taken n ys (omega arith))

short_length : (n : ℕ) (ys : List ℕ) → IsShortText n ys → length (take n ys) ≡ n
short_length n ys h = taken n ys (omega (arith, ap length h.1, length_padded 14 (take n ys), h.0))

atom_inner : {cs ds : List ℕ} → atom cs ≡ atom ds → cs ≡ ds
atom_inner {cs} {ds} e = cc

-- texts with the same characters have the same bytes
same_bytes : (xs ys : List ℕ) → IsUtf8 xs → IsUtf8 ys → atom (chars xs) ≡ atom (chars ys) → xs ≡ ys
same_bytes xs ys text other e =
    sym (encodes-chars xs text) ∙ ap encodes (atom_inner e) ∙ encodes-chars ys other

-- short atoms of two lengths differ
pub counts_differ : (n m : ℕ) (xs ys : List ℕ) → IsShortText n xs → IsShortText m ys → (n ≡ m → ⊥) → is_same (atom (chars (take n xs))) (atom (chars (take m ys))) ≡ false
counts_differ n m xs ys a b h =
    differ (atom (chars (take n xs))) (atom (chars (take m ys))) (λ e. h (sym (short_length n xs a) ∙ ap length (same_bytes (take n xs) (take m ys) a.2 b.2 e) ∙ short_length m ys b))

-- short atoms with different bytes differ
bytes_differ : (n m : ℕ) (xs ys : List ℕ) → IsShortText n xs → IsShortText m ys → (xs ≡ ys → ⊥) → is_same (atom (chars (take n xs))) (atom (chars (take m ys))) ≡ false
bytes_differ n m xs ys a b h =
    differ (atom (chars (take n xs))) (atom (chars (take m ys))) (λ e. h (a.1 ∙ ap (padded 14) (same_bytes (take n xs) (take m ys) a.2 b.2 e) ∙ sym b.1))

bytes_themselves : (ys : List ℕ) → pointwise nat_eq ys ys ≡ true
bytes_themselves [] = refl
bytes_themselves (b ∷ ys) = rw (eq-eqb b b refl) (bytes_themselves ys)

-- short atoms of the same length are equal if their bytes are
pub bytes_decide : (n m : ℕ) (xs ys : List ℕ) (test : Bool) → IsShortText n xs → IsShortText m ys → n ≡ m → test ≡ pointwise nat_eq xs ys → test ≡ is_same (atom (chars (take n xs))) (atom (chars (take m ys)))
bytes_decide n m xs ys true a b count e =
    let is : xs ≡ ys = same_text xs ys e in
    let same : atom (chars (take n xs)) ≡ atom (chars (take m ys)) = cc in
    sym (itself (atom (chars (take n xs))) (atom (chars (take m ys))) same)
bytes_decide n m xs ys false a b count e =
    sym (bytes_differ n m xs ys a b (λ is. true≢false (sym (bytes_themselves xs) ∙ ap (pointwise nat_eq xs) is ∙ sym e)))

-- a short atom differs from a longer one
pub long_differs : (n : ℕ) (xs ys : List ℕ) → IsShortText n xs → IsUtf8 ys → 14 < length ys → is_same (atom (chars (take n xs))) (atom (chars ys)) ≡ false
long_differs n xs ys a text long =
    differ (atom (chars (take n xs))) (atom (chars ys)) (λ e. absurd (omega (arith, short_length n xs a, ap length (same_bytes (take n xs) ys a.2 text e), a.0, long)))

pub differs_long : (n : ℕ) (xs ys : List ℕ) → IsShortText n xs → IsUtf8 ys → 14 < length ys → is_same (atom (chars ys)) (atom (chars (take n xs))) ≡ false
differs_long n xs ys a text long =
    differ (atom (chars ys)) (atom (chars (take n xs))) (λ e. absurd (omega (arith, short_length n xs a, ap length (same_bytes ys (take n xs) text a.2 e), a.0, long)))
