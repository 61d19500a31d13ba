-- Texts are ordered by their bytes as by their characters.
use Rattle.std.proofs.Common.{◌≡◌, ℕ, ◌+◌, ◌*◌, ◌/◌, ◌<◌, ◌≤◌, List, [], ◌∷◌, ◌++◌, refl, ap, sym, ◌∙◌, arith}
use Rattle.std.specs.declared.cmp.Ordering.{Ordering}
use Rattle.std.specs.declared.cmp.Ordering.TheVariants.{Less, Equal, Greater}
use Rattle.std.specs.Ordering.{ordering_then, nat_cmp}
use Rattle.std.specs.Cmp.{nat_cmp_is}
use Rattle.std.specs.Cmp.Lexicographic.{slice_cmp}
use Rattle.std.specs.Str.{chars, IsUtf8}
use Rattle.std.proofs.lemmas.Str.{encodes-chars}
use Rattle.std.proofs.str.Laws.{Follows, one, two, three, four, order}
use mathlib.Core.Logic.{◌⊎◌, inl, inr}
use lib.Utf8.{next, encode, encodes}

cmp_less : (m n : ℕ) → m < n → nat_cmp m n ≡ Less
cmp_less m n h = sym (nat_cmp_is m n Less h)

cmp_equal : (m n : ℕ) → m ≡ n → nat_cmp m n ≡ Equal
cmp_equal m n h = sym (nat_cmp_is m n Equal h)

cmp_greater : (m n : ℕ) → n < m → nat_cmp m n ≡ Greater
cmp_greater m n h = sym (nat_cmp_is m n Greater h)

-- where the first places and the numbers are in the same strict order, they decide alike
less_alike : (a b m n : ℕ) (o p : Ordering) → a < b → m < n → ordering_then (nat_cmp a b) o ≡ ordering_then (nat_cmp m n) p
less_alike a b m n o p h k = ap (λ r. ordering_then r o) (cmp_less a b h) ∙ sym (ap (λ r. ordering_then r p) (cmp_less m n k))

greater_alike : (a b m n : ℕ) (o p : Ordering) → b < a → n < m → ordering_then (nat_cmp a b) o ≡ ordering_then (nat_cmp m n) p
greater_alike a b m n o p h k = ap (λ r. ordering_then r o) (cmp_greater a b h) ∙ sym (ap (λ r. ordering_then r p) (cmp_greater m n k))

-- numbers of two digits of 64, with an offset, are ordered by their digits
two_digits : (z a b c d m n : ℕ) (o : Ordering) → 128 ≤ b → b < 192 → 128 ≤ d → d < 192 → m + z ≡ a * 64 + b → n + z ≡ c * 64 + d → ordering_then (nat_cmp a c) (ordering_then (nat_cmp b d) o) ≡ ordering_then (nat_cmp m n) o
two_digits z a b c d m n o lb hb ld hd em en = by (order a c) (order c a) (order b d) (order d b)
  where
    by : (a < c) ⊎ (c ≤ a) → (c < a) ⊎ (a ≤ c) → (b < d) ⊎ (d ≤ b) → (d < b) ⊎ (b ≤ d) → ordering_then (nat_cmp a c) (ordering_then (nat_cmp b d) o) ≡ ordering_then (nat_cmp m n) o
    by (inl h) _ _ _ = less_alike a c m n (ordering_then (nat_cmp b d) o) o h (omega arith)
    by (inr _) (inl h) _ _ = greater_alike a c m n (ordering_then (nat_cmp b d) o) o h (omega arith)
    by (inr h) (inr k) (inl l) _ =
        ap (λ r. ordering_then r (ordering_then (nat_cmp b d) o)) (cmp_equal a c (omega arith)) ∙ less_alike b d m n o o l (omega arith)
    by (inr h) (inr k) (inr _) (inl l) =
        ap (λ r. ordering_then r (ordering_then (nat_cmp b d) o)) (cmp_equal a c (omega arith)) ∙ greater_alike b d m n o o l (omega arith)
    by (inr h) (inr k) (inr l) (inr j) =
        ap (λ r. ordering_then r (ordering_then (nat_cmp b d) o)) (cmp_equal a c (omega arith))
        ∙ ap (λ r. ordering_then r o) (cmp_equal b d (omega arith))
        ∙ sym (ap (λ r. ordering_then r o) (cmp_equal m n (omega arith)))

-- the bytes of a character: their number by its size, and together they give the character
data Shape (c : ℕ) : Type 0 where
  of1 : c < 128 → encode c ≡ c ∷ [] → Shape c
  of2 : (a b : ℕ) → 128 ≤ c → c < 2048 → 192 ≤ a → a < 224 → Follows b → c + 12416 ≡ a * 64 + b → encode c ≡ a ∷ b ∷ [] → Shape c
  of3 : (a b d : ℕ) → 2048 ≤ c → c < 65536 → 224 ≤ a → a < 240 → Follows b → Follows d → c + 925824 ≡ a * 4096 + b * 64 + d → encode c ≡ a ∷ b ∷ d ∷ [] → Shape c
  of4 : (a b d e : ℕ) → 65536 ≤ c → 240 ≤ a → Follows b → Follows d → Follows e → c + 63447168 ≡ a * 262144 + b * 4096 + d * 64 + e → encode c ≡ a ∷ b ∷ d ∷ e ∷ [] → Shape c

follows : (x : ℕ) → Follows (next x)
follows x = (omega arith, omega arith)

shape_of : (c : ℕ) → Shape c
shape_of c = by (order c 128) (order c 2048) (order c 65536)
  where
    by : (c < 128) ⊎ (128 ≤ c) → (c < 2048) ⊎ (2048 ≤ c) → (c < 65536) ⊎ (65536 ≤ c) → Shape c
    by (inl h) _ _ = of1 h (one c h)
    by (inr l) (inl h) _ = of2 (192 + c / 64) (next c) l h (omega arith) (omega arith) (follows c) (omega arith) (two c l h)
    by (inr _) (inr l) (inl h) = of3 (224 + c / 4096) (next (c / 64)) (next c) l h (omega arith) (omega arith) (follows (c / 64)) (follows c) (omega arith) (three c l h)
    by (inr _) (inr _) (inr l) = of4 (240 + c / 262144) (next (c / 4096)) (next (c / 64)) (next c) l (omega arith) (follows (c / 4096)) (follows (c / 64)) (follows c) (omega arith) (four c l)

-- the bytes of one character, with more after them
cut : (c d : ℕ) (r t p q : List ℕ) → encode c ≡ p → encode d ≡ q → slice_cmp nat_cmp (encode c ++ r) (encode d ++ t) ≡ slice_cmp nat_cmp (p ++ r) (q ++ t)
cut c d r t p q e f = rw (e, f) refl

-- two texts are ordered by their first characters, and then by the rest
one_order : (c d : ℕ) → Shape c → Shape d → (r t : List ℕ) → slice_cmp nat_cmp (encode c ++ r) (encode d ++ t) ≡ ordering_then (nat_cmp c d) (slice_cmp nat_cmp r t)
one_order c d (of1 h e) (of1 h' e') r t =
    cut c d r t (c ∷ []) (d ∷ []) e e'
one_order c d (of1 h e) (of2 a' b' l' h' m' n' f' s' e') r t =
    cut c d r t (c ∷ []) (a' ∷ b' ∷ []) e e'
    ∙ less_alike c a' c d _ _ (omega arith) (omega arith)
one_order c d (of1 h e) (of3 a' b' x' l' h' m' n' f' g' s' e') r t =
    cut c d r t (c ∷ []) (a' ∷ b' ∷ x' ∷ []) e e'
    ∙ less_alike c a' c d _ _ (omega arith) (omega arith)
one_order c d (of1 h e) (of4 a' b' x' y' l' m' f' g' k' s' e') r t =
    cut c d r t (c ∷ []) (a' ∷ b' ∷ x' ∷ y' ∷ []) e e'
    ∙ less_alike c a' c d _ _ (omega arith) (omega arith)
one_order c d (of2 a b l h m n f s e) (of1 h' e') r t =
    cut c d r t (a ∷ b ∷ []) (d ∷ []) e e'
    ∙ greater_alike a d c d _ _ (omega arith) (omega arith)
one_order c d (of2 a b l h m n f s e) (of2 a' b' l' h' m' n' f' s' e') r t =
    cut c d r t (a ∷ b ∷ []) (a' ∷ b' ∷ []) e e'
    ∙ two_digits 12416 a b a' b' c d _ f.0 f.1 f'.0 f'.1 s s'
one_order c d (of2 a b l h m n f s e) (of3 a' b' x' l' h' m' n' f' g' s' e') r t =
    cut c d r t (a ∷ b ∷ []) (a' ∷ b' ∷ x' ∷ []) e e'
    ∙ less_alike a a' c d _ _ (omega arith) (omega arith)
one_order c d (of2 a b l h m n f s e) (of4 a' b' x' y' l' m' f' g' k' s' e') r t =
    cut c d r t (a ∷ b ∷ []) (a' ∷ b' ∷ x' ∷ y' ∷ []) e e'
    ∙ less_alike a a' c d _ _ (omega arith) (omega arith)
one_order c d (of3 a b x l h m n f g s e) (of1 h' e') r t =
    cut c d r t (a ∷ b ∷ x ∷ []) (d ∷ []) e e'
    ∙ greater_alike a d c d _ _ (omega arith) (omega arith)
one_order c d (of3 a b x l h m n f g s e) (of2 a' b' l' h' m' n' f' s' e') r t =
    cut c d r t (a ∷ b ∷ x ∷ []) (a' ∷ b' ∷ []) e e'
    ∙ greater_alike a a' c d _ _ (omega arith) (omega arith)
one_order c d (of3 a b x l h m n f g s e) (of3 a' b' x' l' h' m' n' f' g' s' e') r t =
    cut c d r t (a ∷ b ∷ x ∷ []) (a' ∷ b' ∷ x' ∷ []) e e'
    ∙ two_digits 0 a b a' b' (a * 64 + b) (a' * 64 + b') _ f.0 f.1 f'.0 f'.1 (omega arith) (omega arith)
    ∙ two_digits 925824 (a * 64 + b) x (a' * 64 + b') x' c d _ g.0 g.1 g'.0 g'.1 (omega arith) (omega arith)
one_order c d (of3 a b x l h m n f g s e) (of4 a' b' x' y' l' m' f' g' k' s' e') r t =
    cut c d r t (a ∷ b ∷ x ∷ []) (a' ∷ b' ∷ x' ∷ y' ∷ []) e e'
    ∙ less_alike a a' c d _ _ (omega arith) (omega arith)
one_order c d (of4 a b x y l m f g k s e) (of1 h' e') r t =
    cut c d r t (a ∷ b ∷ x ∷ y ∷ []) (d ∷ []) e e'
    ∙ greater_alike a d c d _ _ (omega arith) (omega arith)
one_order c d (of4 a b x y l m f g k s e) (of2 a' b' l' h' m' n' f' s' e') r t =
    cut c d r t (a ∷ b ∷ x ∷ y ∷ []) (a' ∷ b' ∷ []) e e'
    ∙ greater_alike a a' c d _ _ (omega arith) (omega arith)
one_order c d (of4 a b x y l m f g k s e) (of3 a' b' x' l' h' m' n' f' g' s' e') r t =
    cut c d r t (a ∷ b ∷ x ∷ y ∷ []) (a' ∷ b' ∷ x' ∷ []) e e'
    ∙ greater_alike a a' c d _ _ (omega arith) (omega arith)
one_order c d (of4 a b x y l m f g k s e) (of4 a' b' x' y' l' m' f' g' k' s' e') r t =
    cut c d r t (a ∷ b ∷ x ∷ y ∷ []) (a' ∷ b' ∷ x' ∷ y' ∷ []) e e'
    ∙ two_digits 0 a b a' b' (a * 64 + b) (a' * 64 + b') _ f.0 f.1 f'.0 f'.1 (omega arith) (omega arith)
    ∙ two_digits 0 (a * 64 + b) x (a' * 64 + b') x' (a * 4096 + b * 64 + x) (a' * 4096 + b' * 64 + x') _ g.0 g.1 g'.0 g'.1 (omega arith) (omega arith)
    ∙ two_digits 63447168 (a * 4096 + b * 64 + x) y (a' * 4096 + b' * 64 + x') y' c d _ k.0 k.1 k'.0 k'.1 (omega arith) (omega arith)

-- the bytes of a character and more are no empty text
some_left : (c : ℕ) → Shape c → (r : List ℕ) → slice_cmp nat_cmp (encode c ++ r) [] ≡ Greater
some_left c (of1 h e) r = rw e refl
some_left c (of2 a b l h m n f s e) r = rw e refl
some_left c (of3 a b x l h m n f g s e) r = rw e refl
some_left c (of4 a b x y l m f g k s e) r = rw e refl

some_right : (c : ℕ) → Shape c → (r : List ℕ) → slice_cmp nat_cmp [] (encode c ++ r) ≡ Less
some_right c (of1 h e) r = rw e refl
some_right c (of2 a b l h m n f s e) r = rw e refl
some_right c (of3 a b x l h m n f g s e) r = rw e refl
some_right c (of4 a b x y l m f g k s e) r = rw e refl

encodes_order : (cs ds : List ℕ) → slice_cmp nat_cmp (encodes cs) (encodes ds) ≡ slice_cmp nat_cmp cs ds
encodes_order [] [] = refl
encodes_order [] (d ∷ ds) = some_right d (shape_of d) (encodes ds)
encodes_order (c ∷ cs) [] = some_left c (shape_of c) (encodes cs)
encodes_order (c ∷ cs) (d ∷ ds) =
    one_order c d (shape_of c) (shape_of d) (encodes cs) (encodes ds) ∙ ap (ordering_then (nat_cmp c d)) (encodes_order cs ds)

-- two texts are ordered by their bytes as by their characters
pub bytes_order : (bs ds : List ℕ) → IsUtf8 bs → IsUtf8 ds → slice_cmp nat_cmp bs ds ≡ slice_cmp nat_cmp (chars bs) (chars ds)
bytes_order bs ds hb hd =
    sym (ap (λ x. slice_cmp nat_cmp x (encodes (chars ds))) (encodes-chars bs hb) ∙ ap (slice_cmp nat_cmp bs) (encodes-chars ds hd))
    ∙ encodes_order (chars bs) (chars ds)
