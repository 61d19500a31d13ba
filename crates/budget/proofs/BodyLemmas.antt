-- Budgets of all bodies: the pass from the last body to the first, and that each body has only one budget.
use Rattle.std.proofs.Common.{◌≡◌, ◌≢◌, ℕ, zero, suc, ◌+◌, ◌-◌, ◌<◌, ◌≤◌, List, [], ◌∷◌, length, replicate, set, slice_get, slice_index, Option, Some, None, refl, sym, ◌∙◌, ap, ap₂, arith, get_or, inl, inr}
use Rattle.std.proofs.lemmas.List.{get_or_past, length-set, get_or-set_same, get_or-set_other}
use Rattle.std.proofs.lemmas.Option.{slice_get-get_or, slice_get_within}
use Rattle.mcode.specs.Program.{Program, body_of}
use Rattle.mcode.proofs.BodyLemmas.{least_number_of_body}
use Rattle.mcode.specs.declared.instr.Instr.{Instr}
use Rattle.mcode.specs.declared.instr.Instr.TheVariants as instr
use Rattle.budget.specs.Paths.{IsPathFrom, IsBodyBudget, AreBudgets, IsBudget, IsOver, IsForward, IsCallForward, weight, weight_of, counted, most_budget}
use Rattle.budget.specs.Paths.IsPathFrom.{alone, onward}
use Rattle.budget.proofs.PathLemmas.{weight_some, counted_at}
use Rattle.budget.proofs.PassLemmas.{before_or_not}

-- ---- one body

-- a body has only one budget
pub body_once : (p : Program) (budgets : List ℕ) (n m : ℕ) → IsBodyBudget p budgets n → IsBodyBudget p budgets m → n ≡ m
body_once p budgets n m a b = let up = low p budgets n m a b in let down = low p budgets m n b a in omega (arith, up, down)
  where
    low : (p : Program) (budgets : List ℕ) (n m : ℕ) → IsBodyBudget p budgets n → IsBodyBudget p budgets m → n ≤ m
    low p budgets n m a b = elim a.reached [
      | inl some ↦ let most = b.greatest some.0 some.1 in omega (arith, most, some.2)
      | inr none ↦ omega (arith, none.1)
    ]

-- budgets that agree after a number
abbrev pub AgreeBehind : ℕ → List ℕ → List ℕ → Type 0
AgreeBehind n budgets others = (c : ℕ) → n < c → slice_index budgets c ≡ slice_index others c

weight_agrees : (p : Program) (budgets others : List ℕ) (i : Instr) → AgreeBehind p.around.number budgets others → IsCallForward p i → weight budgets i ≡ weight others i
weight_agrees p budgets others (instr.Invoke r l) same call = ap suc (same r call.0)
weight_agrees p budgets others i same call = refl

counted_agrees : (p : Program) (budgets others : List ℕ) (path : List ℕ) → AgreeBehind p.around.number budgets others → IsForward p → counted p budgets path ≡ counted p others path
counted_agrees p budgets others [] same forward = refl
counted_agrees p budgets others (a ∷ path) same forward =
    ap₂ (λ n m. n + m) (by (slice_get p.instructions a) refl) (counted_agrees p budgets others path same forward)
  where
    by : (o : Option Instr) → slice_get p.instructions a ≡ o → weight_of budgets o ≡ weight_of others o
    by None is = refl
    by (Some i) is = weight_agrees p budgets others i same (forward.calls a i is)

-- the budget of a body depends only on those of bodies with higher numbers
pub budget_agrees : (p : Program) (budgets others : List ℕ) (n : ℕ) → AgreeBehind p.around.number budgets others → IsForward p → IsBodyBudget p budgets n → IsBodyBudget p others n
budget_agrees p budgets others n same forward budget = record {
  reached = elim budget.reached [
    | inl some ↦ inl (some.0, some.1, sym (counted_agrees p budgets others some.0 same forward) ∙ some.2)
    | inr none ↦ inr none
  ];
  greatest = λ path is_path.
      let most = budget.greatest path is_path in
      omega (arith, most, counted_agrees p budgets others path same forward);
}

-- ---- all bodies

-- before the pass no budget is required to be right
pub budgets_none : (p : Program) (budgets : List ℕ) (from : ℕ) → length budgets ≡ suc (length p.around.routines) → length p.around.routines < from → AreBudgets p from budgets
budgets_none p budgets from count past = record { count = count; each = λ b low inside. absurd (omega (arith, low, inside, past)) }

pub few_none : (n b : ℕ) → slice_index (replicate n 0) b ≤ most_budget
few_none zero b = omega arith
few_none (suc n) zero = omega arith
few_none (suc n) (suc b) = few_none n b

-- all bodies from one on go forward
abbrev pub ForwardFrom : Program → ℕ → Type 0
ForwardFrom p from = (b : ℕ) → from ≤ b → b ≤ length p.around.routines → IsForward (body_of p b)

-- the budgets with one more
pub budgets_more : (p : Program) (budgets : List ℕ) (b n : ℕ) → ForwardFrom p b → b ≤ length p.around.routines → AreBudgets p (b + 1) budgets → IsBodyBudget (body_of p b) budgets n → AreBudgets p b (set budgets b n)
budgets_more p budgets b n forward inside are here = record {
  count = length-set budgets b n ∙ are.count;
  each = λ c from within. elim (before_or_not b c) [
    | inl after ↦
        let other : c ≢ b = omega (arith, after) in
        rw get_or-set_other (moved c from within (slice_index budgets c) (are.each c (omega (arith, after)) within))
    | inr not_after ↦
        let same : c ≡ b = omega (arith, not_after, from) in
        let long : b < length budgets = omega (arith, inside, are.count) in
        let now : slice_index (set budgets b n) b ≡ n = get_or-set_same budgets b n 0 long in
        rw (same, now) (moved b (omega arith) inside n here)
  ];
}
  where
    moved : (c : ℕ) → b ≤ c → c ≤ length p.around.routines → (m : ℕ) → IsBodyBudget (body_of p c) budgets m → IsBodyBudget (body_of p c) (set budgets b n) m
    moved c from within m budget =
        budget_agrees (body_of p c) budgets (set budgets b n) m
        (λ d behind. let other : d ≢ b = omega (arith, behind, from, least_number_of_body p c) in sym (get_or-set_other budgets b d n 0 other))
        (forward c from within) budget

-- budgets within the limit, with one more
pub few_more : (budgets : List ℕ) (b n : ℕ) → b < length budgets → ((c : ℕ) → slice_index budgets c ≤ most_budget) → n ≤ most_budget → (c : ℕ) → slice_index (set budgets b n) c ≤ most_budget
few_more budgets b n inside few low c = elim (before_or_not b c) [
  | inl after ↦ let other : c ≢ b = omega (arith, after) in omega (arith, few c, get_or-set_other budgets b c n 0 other)
  | inr not_after ↦ elim (before_or_not c b) [
    | inl before ↦ let other : c ≢ b = omega (arith, before) in omega (arith, few c, get_or-set_other budgets b c n 0 other)
    | inr least ↦
        let same : c ≡ b = omega (arith, not_after, least) in
        rw same (omega (arith, low, get_or-set_same budgets b n 0 inside))
  ]
]

-- a budget above the limit, if those after it are within the limit
pub over_here : (p : Program) (budgets : List ℕ) (b n : ℕ) → ForwardFrom p b → b ≤ length p.around.routines → AreBudgets p (b + 1) budgets → ((c : ℕ) → slice_index budgets c ≤ most_budget) → IsBodyBudget (body_of p b) budgets n → most_budget < n → IsOver p b
over_here p budgets b n forward inside are few here over = record {
  budgets = set budgets b n;
  inside = inside;
  are = budgets_more p budgets b n forward inside are here;
  over = omega (arith, over, get_or-set_same budgets b n 0 (omega (arith, inside, are.count)));
  behind = λ c after. let other : c ≢ b = omega (arith, after) in omega (arith, few c, get_or-set_other budgets b c n 0 other);
}

-- ---- one budget

-- a path counts its first instruction
path_counts : (p : Program) (budgets : List ℕ) (a : ℕ) (path : List ℕ) → IsPathFrom p a path → 0 < counted p budgets path
path_counts p budgets a path (alone inside) =
    let i = get_or p.instructions a instr.Load in
    let here = slice_get-get_or p.instructions a instr.Load inside in
    omega (arith, counted_at p budgets a i [] here, weight_some budgets i)
path_counts p budgets a path (onward {path = rest} edge is_path) =
    omega (arith, counted_at p budgets a edge.instr rest edge.here, weight_some budgets edge.instr)

-- an instruction counts the same with budgets that agree where they are this low
weight_low : (budgets others : List ℕ) (n : ℕ) (o : Option Instr) → ((r : ℕ) → slice_index budgets r ≤ n → slice_index budgets r ≡ slice_index others r) → weight_of budgets o ≤ suc n → weight_of budgets o ≡ weight_of others o
weight_low budgets others n None same low = refl
weight_low budgets others n (Some (instr.Invoke r l)) same low = ap suc (same r (omega (arith, low)))
weight_low budgets others n (Some i) same low = refl

counted_low : (p : Program) (budgets others : List ℕ) (n : ℕ) (path : List ℕ) → ((r : ℕ) → slice_index budgets r ≤ n → slice_index budgets r ≡ slice_index others r) → counted p budgets path ≤ suc n → counted p budgets path ≡ counted p others path
counted_low p budgets others n [] same low = refl
counted_low p budgets others n (a ∷ path) same low =
    ap₂ (λ i j. i + j) (weight_low budgets others n (slice_get p.instructions a) same (omega (arith, low)))
    (counted_low p budgets others n path same (omega (arith, low)))

module _ (p : Program) (budgets others : List ℕ) (are : AreBudgets p 0 budgets) (again : AreBudgets p 0 others) where
  abbrev Same : ℕ → Type 0
  Same b = slice_index budgets b ≡ slice_index others b

  -- bodies whose paths count the same have the same budget
  same_here : (b m : ℕ) → b ≤ length p.around.routines → ((path : List ℕ) → counted (body_of p b) budgets path ≤ suc m → counted (body_of p b) budgets path ≡ counted (body_of p b) others path) → slice_index budgets b ≤ suc m → Same b
  same_here b m inside same low =
      let one = are.each b (omega arith) inside in
      let two = again.each b (omega arith) inside in
      elim two.reached [
        | inl some ↦
            let most = one.greatest some.0 some.1 in
            let down = same some.0 (omega (arith, most, low)) in
            elim one.reached [
              | inl found ↦
                  let up = same found.0 (omega (arith, found.2, low)) in
                  let least = two.greatest found.0 found.1 in
                  omega (arith, most, down, some.2, up, least, found.2)
              | inr none ↦ absurd (nothing (body_of p b) some.0 none.0 some.1)
            ]
        | inr none ↦ elim one.reached [
          | inl found ↦ absurd (nothing (body_of p b) found.0 none.0 found.1)
          | inr empty ↦ empty.1 ∙ sym none.1
        ]
      ]
    where
      nothing : (q : Program) (path : List ℕ) → q.instructions ≡ [] → IsPathFrom q 0 path → ⊥
      nothing q path empty (alone inside) = absurd (omega (arith, inside, ap length empty))
      nothing q path empty (onward edge rest) =
          let inside = slice_get_within q.instructions 0 edge.instr edge.here in
          absurd (omega (arith, inside, ap length empty))

  -- budgets that are this low are equal
  same_low : (n b : ℕ) → slice_index budgets b ≤ n → Same b
  same_low zero b low = elim (before_or_not (length p.around.routines) b) [
    | inl past ↦ get_or_past budgets b 0 (omega (arith, past, are.count)) ∙ sym (get_or_past others b 0 (omega (arith, past, again.count)))
    | inr inside ↦ elim (are.each b (omega arith) inside).reached [
      | inl some ↦ absurd (omega (arith, path_counts (body_of p b) budgets 0 some.0 some.1, some.2, low))
      | inr none ↦ elim (again.each b (omega arith) inside).reached [
        | inl some ↦ absurd (omega (arith, path_counts (body_of p b) budgets 0 some.0 some.1, (are.each b (omega arith) inside).greatest some.0 some.1, low))
        | inr empty ↦ none.1 ∙ sym empty.1
      ]
    ]
  ]
  same_low (suc n) b low = elim (before_or_not (length p.around.routines) b) [
    | inl past ↦ get_or_past budgets b 0 (omega (arith, past, are.count)) ∙ sym (get_or_past others b 0 (omega (arith, past, again.count)))
    | inr inside ↦ same_here b n inside (λ path few. counted_low (body_of p b) budgets others n path (same_low n) few) low
  ]

-- code has only one budget
pub budget_once : (p : Program) (n m : ℕ) → IsBudget p n → IsBudget p m → n ≡ m
budget_once p n m a b = a.2 ∙ same_low p a.0 b.0 a.1 b.1 (slice_index a.0 0) 0 (omega arith) ∙ sym b.2

-- ---- budgets from a body on, if all goes forward

pub budgets_agree : (p : Program) (from : ℕ) (budgets others : List ℕ) → ForwardFrom p from → AreBudgets p from budgets → AreBudgets p from others → (c : ℕ) → from ≤ c → slice_index budgets c ≡ slice_index others c
budgets_agree p from budgets others forward are again c low = by (suc (length p.around.routines) - c) c low (omega arith)
  where
    by : (left c : ℕ) → from ≤ c → suc (length p.around.routines) ≤ left + c → slice_index budgets c ≡ slice_index others c
    by zero c low past = get_or_past budgets c 0 (omega (arith, past, are.count)) ∙ sym (get_or_past others c 0 (omega (arith, past, again.count)))
    by (suc left) c low past = elim (before_or_not (length p.around.routines) c) [
      | inl above ↦ get_or_past budgets c 0 (omega (arith, above, are.count)) ∙ sym (get_or_past others c 0 (omega (arith, above, again.count)))
      | inr inside ↦
          let same : AgreeBehind (body_of p c).around.number budgets others = λ d behind. by left d (omega (arith, behind, low, least_number_of_body p c)) (omega (arith, behind, past, least_number_of_body p c)) in
          body_once (body_of p c) others _ _ (budget_agrees (body_of p c) budgets others _ same (forward c low inside) (are.each c low inside)) (again.each c low inside)
    ]
