-- The pass from the last instruction to the first: one step, and the result of all steps.
use Rattle.std.proofs.Common.{◌≡◌, ◌≢◌, ℕ, zero, suc, ◌+◌, ◌*◌, ◌<◌, ◌≤◌, max, Bool, true, false, if◌then◌else◌, List, [], ◌∷◌, length, set, replicate, slice_index, Option, Some, None, refl, sym, ◌∙◌, ap, arith, ◌⊎◌, inl, inr}
use Rattle.std.specs.Option.{option_map_or, MatchOption}
use Rattle.std.proofs.lemmas.List.{get_or_past, length-set, get_or-set_same, get_or-set_other, get_or-replicate, length-replicate}
use Rattle.std.proofs.lemmas.Option.{slice_get_within}
use Rattle.mcode.specs.Program.{Program}
use Rattle.mcode.specs.Instr.{target_of, goes_on}
use Rattle.mcode.specs.declared.instr.Instr.{Instr}
use Rattle.budget.specs.Paths.{IsAt, HasEdge, IsPathFrom, HasPath, IsLimitFrom, IsBodyBudget, AreJumpsForward, weight, counted, most_budget}
use Rattle.budget.specs.Paths.IsPathFrom.{alone, onward}
use Rattle.budget.specs.Pass.{IsLongestFrom, AreLongest, AreSmall, most_weight, code_of, next_number, target_number, onward_number}
use Rattle.budget.proofs.PathLemmas.{counted_at, counted_moves}

-- i is before j or not
pub before_or_not : (i j : ℕ) → (i < j) ⊎ (j ≤ i)
before_or_not i zero = inr (omega arith)
before_or_not zero (suc j) = inl (omega arith)
before_or_not (suc i) (suc j) = elim (before_or_not i j) [ inl h ↦ inl (omega arith) | inr h ↦ inr (omega arith) ]

-- n is 0, or some path from where an edge leads counts n
abbrev IsReached : Program → List ℕ → ℕ → ℕ → Type 0
IsReached p budgets a n = (n ≡ 0) ⊎ ((b : ℕ) × HasEdge p a b × HasPath p budgets b n)

reached_max : {p : Program} (budgets : List ℕ) {a : ℕ} (n m : ℕ) → IsReached p budgets a n → IsReached p budgets a m → IsReached p budgets a (max n m)
reached_max {p} budgets {a} n m of_n of_m = elim (before_or_not n m) [
  | inl h ↦ let e : max n m ≡ m = omega arith in rw e of_m
  | inr h ↦ let e : max n m ≡ n = omega arith in rw e of_n
]

-- the instruction at a place of code for which all later numbers are right
module _ (p : Program) (budgets : List ℕ) (a : ℕ) (i : Instr) (numbers : List ℕ) (forward : AreJumpsForward p) (later : AreLongest p budgets numbers (a + 1)) (here : IsAt p a i) where
  next_reached : IsReached p budgets a (next_number i a numbers)
  next_reached = by (goes_on i) refl
    where
      by : (on : Bool) → goes_on i ≡ on → IsReached p budgets a (if on then slice_index numbers (a + 1) else 0)
      by false is = inl refl
      by true is = elim (before_or_not (a + 1) (length p.instructions)) [
        | inl inside ↦ inr (a + 1, record { instr = i; here = here; leads = inl (is, refl); inside = inside }, (later.each (a + 1) (omega arith) inside).reached)
        | inr past ↦ inl (get_or_past numbers (a + 1) 0 (omega (arith, later.count)))
      ]

  target_reached : IsReached p budgets a (target_number i numbers)
  target_reached = by (target_of i) refl
    where
      by : (target : Option ℕ) → target_of i ≡ target → IsReached p budgets a (option_map_or (slice_index numbers) target 0)
      by None is = inl refl
      by (Some b) is =
          let ahead = forward a b i here is in
          inr (b, record { instr = i; here = here; leads = inr is; inside = ahead.1 }, (later.each b (omega (arith, ahead.0)) ahead.1).reached)

  onward_reached : IsReached p budgets a (onward_number i a numbers)
  onward_reached = reached_max budgets _ _ next_reached target_reached

  -- no path from where an edge leads counts more
  onward_limit : (b : ℕ) → HasEdge p a b → (path : List ℕ) → IsPathFrom p b path → counted p budgets path ≤ onward_number i a numbers
  onward_limit b edge path is_path =
      let same : Some edge.instr ≡ Some i = sym edge.here ∙ here in
      let instr : edge.instr ≡ i = cc in
      elim edge.leads [
        | inl next ↦
            let limit = (later.each b (omega (arith, next.1)) edge.inside).greatest path is_path in
            let on : goes_on i ≡ true = sym (ap goes_on instr) ∙ next.0 in
            let number : next_number i a numbers ≡ slice_index numbers b = rw (on, next.1) in
            omega (arith, limit, number)
        | inr jumps ↦
            let ahead = forward a b edge.instr edge.here jumps in
            let limit = (later.each b (omega (arith, ahead.0)) edge.inside).greatest path is_path in
            let to : target_of i ≡ Some b = sym (ap target_of instr) ∙ jumps in
            let number : target_number i numbers ≡ slice_index numbers b = rw to in
            omega (arith, limit, number)
      ]

  -- this number and what the instruction counts are together the largest that a path from it counts
  pub longest_step : IsLongestFrom p budgets a (weight budgets i + onward_number i a numbers)
  longest_step = record { reached = by onward_reached; greatest = limit }
    where
      within : a < length p.instructions
      within = slice_get_within p.instructions a i here

      by : {n : ℕ} → IsReached p budgets a n → HasPath p budgets a (weight budgets i + n)
      by {n} (inl none) = (a ∷ [], alone within, omega (arith, none, counted_at p budgets a i [] here))
      by {n} (inr (b, edge, (path, is_path, count))) = (a ∷ path, onward edge is_path, omega (arith, count, counted_at p budgets a i path here))

      limit : IsLimitFrom p budgets a (weight budgets i + onward_number i a numbers)
      limit path (alone inside) = omega (arith, counted_at p budgets a i [] here)
      limit path (onward {b = b} {path = rest} edge is_path) =
          let most = onward_limit b edge rest is_path in
          omega (arith, most, counted_at p budgets a i rest here)

-- a number is at most what all later instructions may count
pub onward_small : (i : Instr) (a n : ℕ) (numbers : List ℕ) → AreSmall numbers n → onward_number i a numbers ≤ most_weight * n
onward_small i a n numbers small = omega (arith, next (goes_on i), target (target_of i))
  where
    next : (on : Bool) → (if on then slice_index numbers (a + 1) else 0) ≤ most_weight * n
    next true = small (a + 1)
    next false = omega arith

    target : (to : Option ℕ) → option_map_or (slice_index numbers) to 0 ≤ most_weight * n
    target None = omega arith
    target (Some b) = small b

-- code with the same instructions has the same paths
path_moves : {p q : Program} {a : ℕ} {path : List ℕ} → p.instructions ≡ q.instructions → IsPathFrom p a path → IsPathFrom q a path
path_moves same (alone inside) = alone (rw (← same) inside)
path_moves same (onward edge rest) =
    onward (record { instr = edge.instr; here = rw (← same) edge.here; leads = edge.leads; inside = rw (← same) edge.inside }) (path_moves same rest)

-- a body has the budget of its instructions
pub budget_of_body : (p : Program) (budgets : List ℕ) (is : List Instr) (n : ℕ) → is ≡ p.instructions → IsBodyBudget (code_of is) budgets n → IsBodyBudget p budgets n
budget_of_body p budgets is n same budget = record {
  reached = elim budget.reached [
    | inl some ↦ inl (some.0, path_moves {p = code_of is} {q = p} same some.1, sym (counted_moves (code_of is) p budgets some.0 same) ∙ some.2)
    | inr none ↦ inr (sym same ∙ none.0, none.1)
  ];
  greatest = λ path is_path.
      let most = budget.greatest path (path_moves {p = p} {q = code_of is} (sym same) is_path) in
      omega (arith, most, counted_moves (code_of is) p budgets path same);
}

-- the budget of a body, if it is not above the limit
pub limited : (p : Program) (budgets : List ℕ) (is : List Instr) (n : ℕ) (found : Option ℕ) → is ≡ p.instructions → IsBodyBudget (code_of is) budgets n → MatchOption found (most_budget < n) (λ m. (m ≡ n) × (m ≤ most_budget)) → MatchOption found ((m : ℕ) × IsBodyBudget p budgets m × (most_budget < m)) (λ m. IsBodyBudget p budgets m × (m ≤ most_budget))
limited p budgets is n None same budget told = (n, budget_of_body p budgets is n same budget, told)
limited p budgets is n (Some m) same budget told =
    (rw told.0 (budget_of_body p budgets is n same budget), told.1)

-- if all numbers are right, the first is the budget
pub budget_first : {p : Program} {budgets numbers : List ℕ} → AreLongest p budgets numbers 0 → IsBodyBudget p budgets (slice_index numbers 0)
budget_first {p} {budgets} {numbers} all = by p.instructions refl
  where
    none : p.instructions ≡ [] → IsLimitFrom p budgets 0 (slice_index numbers 0)
    none empty path (alone inside) = absurd (omega (arith, inside, ap length empty))
    none empty path (onward edge rest) =
        let inside = slice_get_within p.instructions 0 edge.instr edge.here in
        absurd (omega (arith, inside, ap length empty))

    by : (is : List Instr) → p.instructions ≡ is → IsBodyBudget p budgets (slice_index numbers 0)
    by [] empty = record { reached = inr (empty, get_or_past numbers 0 0 (omega (arith, all.count, ap length empty))); greatest = none empty }
    by (i ∷ is) some =
        let first = all.each 0 (omega arith) (omega (arith, ap length some)) in
        record { reached = inl first.reached; greatest = first.greatest }

-- before the pass no number is required to be right
pub longest_none : {p : Program} {budgets numbers : List ℕ} → length numbers ≡ length p.instructions → AreLongest p budgets numbers (length p.instructions)
longest_none count = record { count = count; each = λ a from inside. absurd (omega (arith, from, inside)) }

-- the numbers with one more
pub longest_more : {p : Program} {budgets numbers : List ℕ} (a n : ℕ) → a < length p.instructions → AreLongest p budgets numbers (a + 1) → IsLongestFrom p budgets a n → AreLongest p budgets (set numbers a n) a
longest_more {p} {budgets} {numbers} a n inside later here = record {
  count = length-set numbers a n ∙ later.count;
  each = λ b from in_code. elim (before_or_not a b) [
    | inl after ↦ let other : b ≢ a = omega arith in rw get_or-set_other (later.each b (omega (arith, after)) in_code)
    | inr not_after ↦
        let same : b ≡ a = omega (arith, not_after, from) in
        let within : a < length numbers = omega (arith, inside, later.count) in
        rw (same, get_or-set_same) here
  ];
}

-- zeros are small
pub small_none : (n m : ℕ) → AreSmall (replicate n 0) m
small_none n m a = elim (before_or_not a n) [
  | inl inside ↦ omega (arith, get_or-replicate {A = ℕ} n a 0 0 inside)
  | inr past ↦ omega (arith, get_or_past {X = ℕ} (replicate n 0) a 0 (omega (arith, past, length-replicate {A = ℕ} n 0)))
]

-- one more number, and one more instruction that may be counted
pub small_more : (numbers : List ℕ) (a n m k : ℕ) → a < length numbers → m ≤ k → AreSmall numbers m → n ≤ most_weight * k → AreSmall (set numbers a n) k
small_more numbers a n m k inside more small low b = elim (nat_same b a) [
  | inl same ↦ rw (same, get_or-set_same) low
  | inr other ↦ let old = small b in omega (arith, old, more, get_or-set_other numbers a b n 0 other)
]
  where
    nat_same : (i j : ℕ) → (i ≡ j) ⊎ (i ≢ j)
    nat_same i j = elim (before_or_not i j) [
      | inl less ↦ inr (λ e. absurd (omega (arith, less, e)))
      | inr more ↦ elim (before_or_not j i) [
        | inl less ↦ inr (λ e. absurd (omega (arith, less, e)))
        | inr least ↦ inl (omega (arith, more, least))
      ]
    ]
