-- Parts of code that are typed, one after the other.
use Rattle.std.proofs.Common.{◌≡◌, ℕ, zero, suc, ◌+◌, ◌<◌, ◌≤◌, Bool, true, List, [], ◌∷◌, ◌++◌, length, set, slice_get, refl, sym, ◌∙◌, ap, subst, arith, Some, inl, inr}
use Rattle.std.specs.Prelude.{IsTrue, All}
use Rattle.std.proofs.lemmas.Bool.{cases_eq, eq-eqb, ne_eqb}
use Rattle.std.proofs.lemmas.List.Elements.{All-nil, All-cons, All-head, All-tail}
use Rattle.mcode.specs.Kind.{is_below}
use Rattle.mcode.specs.Program.{Program, frame_at}
use Rattle.mcode.specs.declared.instr.Instr.{Instr}
use Rattle.mcode.specs.declared.kind.Kind.{Kind}
use Rattle.mcode.specs.declared.kind.Kind.TheVariants as kind
use Rattle.verifier_types.specs.Effect.{falling_shape}
use Rattle.verifier_types.specs.Shape.{Shape, place_kind, frame_kinds, marked, is_bound, AreBelow}
use Rattle.verifier.specs.Typing.{Begins}
use Rattle.compiler.specs.Flow.{IsFit, Flows}

module _ (p : Program) (most : ℕ) where
  pub flows_then : (n m pc : ℕ) (s t u : Shape) → Flows p most pc s n t → Flows p most (pc + n) t m u → Flows p most pc s (n + m) u
  flows_then zero m pc s t u e h =
      let here : pc + 0 ≡ pc = omega arith in
      let count : m ≡ 0 + m = omega arith in
      subst (λ k. Flows p most pc s k u) count (subst (λ x. Flows p most pc x m u) (sym e) (subst (λ q. Flows p most q t m u) here h))
  flows_then (suc n) m pc s t u f h =
      let there : pc + suc n ≡ suc pc + n = omega arith in
      let count : suc (n + m) ≡ suc n + m = omega arith in
      let rest = flows_then n m (suc pc) f.3.0 t u f.3.2 (subst (λ q. Flows p most q t m u) there h) in
      subst (λ k. Flows p most pc s k u) count (f.0, f.1, f.2, (f.3.0, f.3.1, rest))

  -- one instruction, and the state with which the next begins
  pub flows_by : (pc : ℕ) (i : Instr) (s t : Shape) → slice_get p.instructions pc ≡ Some i → IsFit p most pc i s → Begins p (falling_shape p i s) (frame_at p.frames (suc pc)) t → Flows p most pc s 1 t
  flows_by pc i s t h fit begins = (i, h, fit, (t, begins, refl))

-- ---- kinds

pub below_itself : (k : Kind) → IsTrue (is_below k k)
below_itself kind.Any = refl
below_itself kind.Int = refl
below_itself kind.Bool = refl
below_itself kind.Cons = refl
below_itself kind.Map = refl
below_itself (kind.Tuple n) = eq-eqb n n refl

pub below_any : (k : Kind) → IsTrue (is_below k kind.Any)
below_any kind.Any = refl
below_any kind.Int = refl
below_any kind.Bool = refl
below_any kind.Cons = refl
below_any kind.Map = refl
below_any (kind.Tuple n) = refl

pub all_below_itself : (ks : List Kind) → AreBelow ks ks
all_below_itself [] = tt
all_below_itself (k ∷ ks) = (below_itself k, all_below_itself ks)

pub below_length : (ks ls : List Kind) → AreBelow ks ls → length ks ≡ length ls
below_length [] [] h = refl
below_length [] (l ∷ ls) h = absurd h
below_length (k ∷ ks) [] h = absurd h
below_length (k ∷ ks) (l ∷ ls) h = ap suc (below_length ks ls h.1)

pub frame_length : (places : List (ℕ × Kind)) (n : ℕ) → length (frame_kinds places n) ≡ n
frame_length places zero = refl
frame_length places (suc n) = ap suc (frame_length places n)

-- places that are integers, each below n
abbrev pub AreIntegers : List (ℕ × Kind) → ℕ → Type 0
AreIntegers places n = All (λ place. (place.0 < n) × (place.1 ≡ kind.Int)) places

pub integers_higher : (places : List (ℕ × Kind)) (n m : ℕ) → n ≤ m → AreIntegers places n → AreIntegers places m
integers_higher [] n m le h = All-nil (λ place. (place.0 < m) × (place.1 ≡ kind.Int))
integers_higher (x ∷ places) n m le h =
    let first = All-head (λ place. (place.0 < n) × (place.1 ≡ kind.Int)) x places h in
    let rest = All-tail (λ place. (place.0 < n) × (place.1 ≡ kind.Int)) x places h in
    All-cons (λ place. (place.0 < m) × (place.1 ≡ kind.Int)) x places (omega (arith, first.0, le), first.1) (integers_higher places n m le rest)

pub integers_more : (places : List (ℕ × Kind)) (n : ℕ) → AreIntegers places n → AreIntegers (places ++ (n, kind.Int) ∷ []) (suc n)
integers_more [] n h = All-cons (λ place. (place.0 < suc n) × (place.1 ≡ kind.Int)) (n, kind.Int) [] (omega arith, refl) (All-nil (λ place. (place.0 < suc n) × (place.1 ≡ kind.Int)))
integers_more (x ∷ places) n h =
    let first = All-head (λ place. (place.0 < n) × (place.1 ≡ kind.Int)) x places h in
    let rest = All-tail (λ place. (place.0 < n) × (place.1 ≡ kind.Int)) x places h in
    All-cons (λ place. (place.0 < suc n) × (place.1 ≡ kind.Int)) x (places ++ (n, kind.Int) ∷ []) (omega (arith, first.0), first.1) (integers_more places n rest)

-- a place that isn't among them is any term
pub kind_outside : (places : List (ℕ × Kind)) (n m : ℕ) → AreIntegers places n → n ≤ m → place_kind places m ≡ kind.Any
kind_outside [] n m h le = refl
kind_outside (x ∷ places) n m h le =
    let first = All-head (λ place. (place.0 < n) × (place.1 ≡ kind.Int)) x places h in
    let rest = All-tail (λ place. (place.0 < n) × (place.1 ≡ kind.Int)) x places h in
    rw (ne_eqb x.0 m (λ e. absurd (omega (arith, first.0, le, e)))) (kind_outside places n m rest le)

-- one more integer place changes no place below it
pub kind_inside : (places : List (ℕ × Kind)) (n m : ℕ) → m < n → place_kind (places ++ (n, kind.Int) ∷ []) m ≡ place_kind places m
kind_inside [] n m lt = rw (ne_eqb n m (λ e. absurd (omega (arith, lt, e)))) refl
kind_inside (x ∷ places) n m lt =
    elim (cases_eq x.0 m) [
      | inl z ↦ rw (eq-eqb x.0 m z) refl
      | inr z ↦ rw (ne_eqb x.0 m z) (kind_inside places n m lt)
    ]

pub kind_added : (places : List (ℕ × Kind)) (n : ℕ) → AreIntegers places n → place_kind (places ++ (n, kind.Int) ∷ []) n ≡ kind.Int
kind_added [] n h = rw (eq-eqb n n refl) refl
kind_added (x ∷ places) n h =
    let first = All-head (λ place. (place.0 < n) × (place.1 ≡ kind.Int)) x places h in
    let rest = All-tail (λ place. (place.0 < n) × (place.1 ≡ kind.Int)) x places h in
    rw (ne_eqb x.0 n (λ e. absurd (omega (arith, first.0, e)))) (kind_added places n rest)

pub kinds_inside : (places : List (ℕ × Kind)) (n m : ℕ) → m ≤ n → frame_kinds (places ++ (n, kind.Int) ∷ []) m ≡ frame_kinds places m
kinds_inside places n zero le = refl
kinds_inside places n (suc m) le =
    ap (λ k. k ∷ frame_kinds (places ++ (n, kind.Int) ∷ []) m) (kind_inside places n m le) ∙ ap (λ ks. place_kind places m ∷ ks) (kinds_inside places n m (omega (arith, le)))

-- ---- slots

pub marked_length : (bs : List Bool) (slots : List ℕ) → length (marked bs slots) ≡ length bs
marked_length bs [] = refl
marked_length bs (n ∷ slots) = marked_length (set bs n true) slots ∙ set_length bs n
  where
    set_length : (bs : List Bool) (n : ℕ) → length (set bs n true) ≡ length bs
    set_length [] n = refl
    set_length (b ∷ bs) zero = refl
    set_length (b ∷ bs) (suc n) = ap suc (set_length bs n)

pub bound_set : (bs : List Bool) (n m : ℕ) → IsTrue (is_bound bs m) → IsTrue (is_bound (set bs n true) m)
bound_set [] n m h = h
bound_set (b ∷ bs) zero zero h = refl
bound_set (b ∷ bs) zero (suc m) h = h
bound_set (b ∷ bs) (suc n) zero h = h
bound_set (b ∷ bs) (suc n) (suc m) h = bound_set bs n m h

pub bound_here : (bs : List Bool) (n : ℕ) → n < length bs → IsTrue (is_bound (set bs n true) n)
bound_here [] n h = absurd (omega (arith, h))
bound_here (b ∷ bs) zero h = refl
bound_here (b ∷ bs) (suc n) h = bound_here bs n (omega (arith, h))

pub bound_more : (bs : List Bool) (slots : List ℕ) (m : ℕ) → IsTrue (is_bound bs m) → IsTrue (is_bound (marked bs slots) m)
bound_more bs [] m h = h
bound_more bs (n ∷ slots) m h = bound_more (set bs n true) slots m (bound_set bs n m h)

pub marks_bound : (bs : List Bool) (slots : List ℕ) → All (λ slot. slot < length bs) slots → All (λ slot. IsTrue (is_bound (marked bs slots) slot)) slots
marks_bound bs [] h = All-nil (λ slot. IsTrue (is_bound (marked bs []) slot))
marks_bound bs (n ∷ slots) h = both bs n slots (All-head (λ slot. slot < length bs) n slots h) (marks_bound (set bs n true) slots (kept bs n slots (All-tail (λ slot. slot < length bs) n slots h)))
  where
    set_length : (bs : List Bool) (n : ℕ) → length (set bs n true) ≡ length bs
    set_length [] n = refl
    set_length (b ∷ bs) zero = refl
    set_length (b ∷ bs) (suc n) = ap suc (set_length bs n)

    kept : (bs : List Bool) (n : ℕ) (slots : List ℕ) → All (λ slot. slot < length bs) slots → All (λ slot. slot < length (set bs n true)) slots
    kept bs n slots h = subst (λ k. All (λ slot. slot < k) slots) (sym (set_length bs n)) h

    both : (bs : List Bool) (n : ℕ) (slots : List ℕ) → n < length bs → All (λ slot. IsTrue (is_bound (marked (set bs n true) slots) slot)) slots → All (λ slot. IsTrue (is_bound (marked (set bs n true) slots) slot)) (n ∷ slots)
    both bs n slots within rest = All-cons (λ slot. IsTrue (is_bound (marked (set bs n true) slots) slot)) n slots (bound_more (set bs n true) slots n (bound_here bs n within)) rest
