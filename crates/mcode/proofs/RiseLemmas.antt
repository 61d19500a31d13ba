-- Lists in ascending order of numbers, and one more at their end.
use Rattle.std.specs.Prelude.{ℕ, zero, suc, ◌≡◌, ◌≢◌, ◌+◌, ◌-◌, ◌<◌, cond, Bool, true, false, nat_eq, List, [], ◌∷◌, ◌++◌, length, map, Some, None, slice_get, All}
use Rattle.std.proofs.Common.{arith, get_or, refl, sym, ap, subst, ◌∙◌, inl, inr}
use Rattle.std.proofs.lemmas.Bool.{eq-eqb, eqb-true, ne_eqb, cases_lt}
use Rattle.std.proofs.lemmas.Cmp.{nat_cmp_total}
use Rattle.std.proofs.lemmas.List.Sorted.{searchable_from_sorted}
use Rattle.std.specs.Cmp.{nat_cmp_is}
use Rattle.std.specs.List.Sorted.{IsNonDecreasingBy, IsPartitionPoint}
use Rattle.std.specs.Ordering.{is_lt, nat_cmp, ordering_index}
use Rattle.std.specs.declared.cmp.Ordering.{Ordering}
use Rattle.std.specs.declared.cmp.Ordering.TheVariants.{Less, Equal, Greater}
use Rattle.std.specs.Option.{option_map}
use Rattle.std.proofs.Math.ListN.{get_or-map}
use Rattle.std.proofs.lemmas.List.{get_or-map as get_or-map-within, length-map, length-append, get_or_append_left}
use Rattle.std.proofs.lemmas.Option.{slice_get_within, get_or_from_slice_get}
use native.Mathlib.Numerals.{unary_clauses}
use Rattle.mcode.specs.Frame.{frame_of}
use Rattle.mcode.specs.declared.frame.Frame.{Frame}
use Rattle.mcode.specs.Program.{Rise, with_number, frame_number, frame_at}

-- the rest of an ascending list is ascending
pub rise_rest : {X : Type 0} (number : X → ℕ) (x : X) (xs : List X) → Rise number (x ∷ xs) → Rise number xs
rise_rest number x xs up j d within =
    let later = up (suc j) d (omega arith) in
    simp unary_clauses (simp unary_clauses at later)

-- an ascending list with one more above its last is ascending
pub rise_more : {X : Type 0} (number : X → ℕ) (xs : List X) (y : X) → Rise number xs → ((n : ℕ) (d : X) → length xs ≡ suc n → number (get_or xs n d) < number y) → Rise number (xs ++ y ∷ [])
rise_more number [] y up last k d within = absurd (omega arith)
rise_more number (x ∷ []) y up last zero d within = last zero d (omega arith)
rise_more number (x ∷ []) y up last (suc k) d within = absurd (omega arith)
rise_more number (x ∷ x' ∷ xs) y up last zero d within = up zero d (omega arith)
rise_more number (x ∷ x' ∷ xs) y up last (suc k) d within =
    let later = rise_more number (x' ∷ xs) y (rise_rest number x (x' ∷ xs) up) (λ n e is. last (suc n) e (ap suc is)) k d (omega arith) in
    simp unary_clauses (simp unary_clauses at later)

-- the last element before one more is below it
pub rise_last : {X : Type 0} (number : X → ℕ) (xs : List X) (y : X) (n : ℕ) (d : X) → Rise number (xs ++ y ∷ []) → length xs ≡ suc n → number (get_or xs n d) < number y
rise_last number [] y n d up is = absurd (omega (arith, is))
rise_last number (x ∷ []) y zero d up is = up zero d (omega arith)
rise_last number (x ∷ []) y (suc n) d up is = absurd (omega (arith, is))
rise_last number (x ∷ x' ∷ xs) y zero d up is = absurd (omega (arith, is))
rise_last number (x ∷ x' ∷ xs) y (suc n) d up is =
    rise_last number (x' ∷ xs) y n d (rise_rest number x (x' ∷ xs ++ y ∷ []) up) (omega (arith, is))

-- the last element of a mapped list is the mapped last element
pub last_of_map : {X Y : Type 0} (f : X → Y) (xs : List X) (x : X) (n : ℕ) (d : Y) → Some x ≡ slice_get xs (length xs - 1) → length (map f xs) ≡ suc n → get_or (map f xs) n d ≡ f x
last_of_map f xs x n d is long =
    let within = slice_get_within xs (length xs - 1) x (sym is) in
    let same : n ≡ length xs - 1 = omega (arith, long, length-map xs f) in
    rw same (get_or-map-within f xs (length xs - 1) x d within ∙ ap f (get_or_from_slice_get xs (length xs - 1) x x (sym is)))

-- a list with a last element is not empty
pub some_of_last : {X Y : Type 0} (f : X → Y) (xs : List X) (x : X) → Some x ≡ slice_get xs (length xs - 1) → length (map f xs) ≡ suc (length xs - 1)
some_of_last f xs x is =
    let within = slice_get_within xs (length xs - 1) x (sym is) in
    omega (arith, within, length-map xs f)

-- there are as many frames as there are of their representations
pub frame_count : {A : Type 0} (fs : List (Frame A)) → length (map frame_of fs) ≡ length fs
frame_count fs = length-map fs frame_of

-- the first element of an ascending list is below each later one
pub rise_first : {X : Type 0} (number : X → ℕ) (x : X) (xs : List X) → Rise number (x ∷ xs) → (i : ℕ) (d : X) → i < length xs → number x < number (get_or xs i d)
rise_first number x [] up i d within = absurd (omega arith)
rise_first number x (y ∷ ys) up zero d within = up zero d (omega arith)
rise_first number x (y ∷ ys) up (suc i) d within =
    let first : number x < number y = up zero x (omega arith) in
    let later = rise_first number y ys (rise_rest number x (y ∷ ys) up) i d (omega arith) in
    omega (arith, first, later)

-- an element of an ascending list is the only one with its number
pub number_found : {X : Type 0} (number : X → ℕ) (xs : List X) (n i : ℕ) (d : X) → Rise number xs → i < length xs → number (get_or xs i d) ≡ n → Some (get_or xs i d) ≡ with_number number xs n
number_found number [] n i d up within same = absurd (omega arith)
number_found number (x ∷ xs) n zero d up within same =
    sym (ap (λ b. cond b (Some x) (with_number number xs n)) (eq-eqb (number x) n same))
number_found number (x ∷ xs) n (suc i) d up within same =
    let below : number x < number (get_or xs i d) = rise_first number x xs up i d (omega arith) in
    number_found number xs n i d (rise_rest number x xs up) (omega arith) same
    ∙ sym (ap (λ b. cond b (Some x) (with_number number xs n)) (ne_eqb (number x) n (λ e. absurd (omega (arith, below, same, e)))))

-- if no element has a number, none is found
pub number_missing : {X : Type 0} (number : X → ℕ) (xs : List X) (n : ℕ) → ((j : ℕ) (d : X) → j < length xs → number (get_or xs j d) ≢ n) → None ≡ with_number number xs n
number_missing number [] n other = refl
number_missing number (x ∷ xs) n other =
    number_missing number xs n (λ j d within. other (suc j) d (omega arith))
    ∙ sym (ap (λ b. cond b (Some x) (with_number number xs n)) (ne_eqb (number x) n (other zero x (omega arith))))

-- the comparisons of ascending numbers with one number are in order
pub numbers_partition : {X : Type 0} (number : X → ℕ) (xs : List X) (n : ℕ) → Rise number xs → IsNonDecreasingBy (λ y. ordering_index (nat_cmp (number y) n)) xs
numbers_partition number xs n up =
    searchable_from_sorted nat_cmp_total number xs n (λ k d from within. sym (ap is_lt (nat_cmp_is _ _ Greater (up k d within))))

-- a number that is less or greater is not equal
not_equal : (r : Ordering) (m n : ℕ) → nat_cmp m n ≡ r → r ≢ Equal → m ≢ n
not_equal r m n stands other same = other (sym stands ∙ sym (nat_cmp_is m n Equal same))

-- a number between a place with only smaller ones before it and only greater ones from there on is not found
pub number_between : {X : Type 0} (number : X → ℕ) (xs : List X) (n i : ℕ) → IsPartitionPoint (λ y. nat_cmp (number y) n ≡ Less) (λ y. nat_cmp (number y) n ≡ Greater) xs i → None ≡ with_number number xs n
number_between number xs n i apart =
    number_missing number xs n (λ j d within same. elim (cases_lt j i) [
      | inl h ↦ absurd (not_equal Less (number (get_or xs j d)) n (apart.0 j d (omega arith) h) (λ e. absurd (cc)) same)
      | inr h ↦ absurd (not_equal Greater (number (get_or xs j d)) n (apart.1 j d h within) (λ e. absurd (cc)) same)
    ])

-- the frames are ascending if their representations are
pub frames_rise : {A : Type 0} (fs : List (Frame A)) → Rise frame_number (map frame_of fs) → Rise (λ f. f.pc) fs
frames_rise fs up k d within =
    let below = up k (frame_of d) (omega (arith, within, length-map fs frame_of)) in
    let below = rw (get_or-map frame_of fs k d) at below in
    rw (get_or-map frame_of fs (k + 1) d) at below

-- the frame that was found represents the one that is found among the representations
pub frame_seen : {A : Type 0} (fs : List (Frame A)) (pc : ℕ) → option_map frame_of (with_number (λ f. f.pc) fs pc) ≡ frame_at (map frame_of fs) pc
frame_seen [] pc = refl
frame_seen (f ∷ fs) pc = by (nat_eq f.pc pc) (frame_seen fs pc)
  where
    by : (b : Bool) → option_map frame_of (with_number (λ f. f.pc) fs pc) ≡ frame_at (map frame_of fs) pc → option_map frame_of (cond b (Some f) (with_number (λ f. f.pc) fs pc)) ≡ cond b (Some (frame_of f)) (frame_at (map frame_of fs) pc)
    by true rest = refl
    by false rest = rest

-- the element that was found has the number that was searched for
pub number_stands : {X : Type 0} (number : X → ℕ) (xs : List X) (n : ℕ) (x : X) → with_number number xs n ≡ Some x → (number x ≡ n) × ((i : ℕ) × (i < length xs) × (get_or xs i x ≡ x))
number_stands number [] n x is = absurd (cc)
number_stands number (y ∷ ys) n x is = by (nat_eq (number y) n) refl is (λ rest. number_stands number ys n x rest)
  where
    by : (b : Bool) → nat_eq (number y) n ≡ b → cond b (Some y) (with_number number ys n) ≡ Some x → (with_number number ys n ≡ Some x → (number x ≡ n) × ((i : ℕ) × (i < length ys) × (get_or ys i x ≡ x))) → (number x ≡ n) × ((i : ℕ) × (i < suc (length ys)) × (get_or (y ∷ ys) i x ≡ x))
    by true test same rest =
        let one : y ≡ x = cc in
        (subst (λ z. number z ≡ n) one (eqb-true (number y) n test), (zero, omega arith, one))
    by false test same rest = let later = rest same in (later.0, (suc later.1.0, omega (arith, later.1.1), later.1.2))

-- of two places of an ascending list the earlier has the lower number
pub rise_apart : {X : Type 0} (number : X → ℕ) (xs : List X) → Rise number xs → (i j : ℕ) (d : X) → i < j → j < length xs → number (get_or xs i d) < number (get_or xs j d)
rise_apart number [] up i j d before inside = absurd (omega (arith, inside))
rise_apart number (x ∷ xs) up zero zero d before inside = absurd (omega (arith, before))
rise_apart number (x ∷ xs) up zero (suc j) d before inside = rise_first number x xs up j d (omega (arith, inside))
rise_apart number (x ∷ xs) up (suc i) zero d before inside = absurd (omega (arith, before))
rise_apart number (x ∷ xs) up (suc i) (suc j) d before inside =
    rise_apart number xs (rise_rest number x xs up) i j d (omega (arith, before)) (omega (arith, inside))

-- all elements of an ascending list are below what the last one is below
pub rise_within : {X : Type 0} (number : X → ℕ) (xs : List X) (x : X) (n : ℕ) → Rise number xs → Some x ≡ slice_get xs (length xs - 1) → number x < n → All (λ y. number y < n) xs
rise_within number xs x n up is below i d inside = elim (cases_lt i (length xs - 1)) [
  | inl h ↦ let last = get_or_from_slice_get xs (length xs - 1) x d (sym is) in
      let lower = rise_apart number xs up i (length xs - 1) d h (omega (arith, inside)) in
      let lower = rw last at lower in
      omega (arith, lower, below)
  | inr h ↦ let same : i ≡ length xs - 1 = omega (arith, inside, h) in
      rw same (rw (get_or_from_slice_get xs (length xs - 1) x d (sym is)) below)
]

-- an ascending list without its last element is ascending
pub rise_front : {X : Type 0} (number : X → ℕ) (xs : List X) (y : X) → Rise number (xs ++ y ∷ []) → Rise number xs
rise_front number xs y up i d inside =
    let below = up i d (omega (arith, inside, length-append xs (y ∷ []))) in
    let below = rw (get_or_append_left xs (y ∷ []) d i (omega (arith, inside))) at below in
    let below = rw (get_or_append_left xs (y ∷ []) d (i + 1) inside) at below in
    below
