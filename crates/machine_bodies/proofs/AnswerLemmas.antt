-- How many instructions a run of typed code executes at most, by how many there are, and that it has ended by then.
use Rattle.std.specs.Prelude.{IsSome, slice_index}
use Rattle.std.proofs.Common.{◌≡◌, ℕ, zero, suc, ◌+◌, ◌*◌, ◌<◌, ◌≤◌, List, [], ◌∷◌, length, drop, slice_get, Option, Some, None, inl, inr, refl, sym, ap, subst, ◌∙◌, arith}
use Rattle.std.proofs.Common.{get_or}
use Rattle.std.proofs.Math.Nat.{zero-mul, one-mul, suc-mul}
use Rattle.std.proofs.lemmas.Nat.{mul-le}
use Rattle.std.proofs.lemmas.Option.{none-some, slice_get-get_or}
use Rattle.term_core.specs.Datum.{Datum}
use Rattle.mcode.specs.Answer.{answer_of, end_answer}
use Rattle.mcode.specs.Program.{Program, Routine, routine_at, routine_body, body_of}
use Rattle.mcode.specs.Run.{Whole, turn, begin, EndsFrom, HasRun, after, most_steps}
use Rattle.mcode.specs.Run.Whole.{Running, Over, Left, Lost}
use Rattle.mcode.specs.declared.instr.Instr.{Instr}
use Rattle.mcode.specs.declared.instr.Instr.TheVariants as instr
use Rattle.budget.specs.Paths.{IsAt, IsPathFrom, AreJumpsForward, IsBodyBudget, weight, counted}
use Rattle.budget.specs.Paths.IsPathFrom.{alone, onward}
use Rattle.budget.proofs.PathLemmas.{path_fits, counted_at}
use Rattle.verifier.specs.Typing.{IsTyped}
use Rattle.machine_step.proofs.WayLemmas.{typed_here}
use Rattle.mcode.proofs.BodyLemmas.{number_of_body, same_routine, counted_routine}
use Rattle.machine_bodies.proofs.WalkLemmas.{run_within}

-- ---- fewer routines

steps_dropped : (n : ℕ) (ts : List Routine) → most_steps (drop n ts) ≤ most_steps ts
steps_dropped zero ts = omega arith
steps_dropped (suc n) [] = omega arith
steps_dropped (suc n) (t ∷ ts) =
    let rest = steps_dropped n ts in
    let first : most_steps (t ∷ ts) ≡ length t.body.instructions * suc (most_steps ts) + most_steps ts = refl in
    omega (arith, rest, first)

-- fewer routines, those from m on, make no more steps than those from n on
steps_behind : (n m : ℕ) (ts : List Routine) → n ≤ m → most_steps (drop m ts) ≤ most_steps (drop n ts)
steps_behind zero m ts less = steps_dropped m ts
steps_behind (suc n) zero ts less = absurd (omega (arith, less))
steps_behind (suc n) (suc m) [] less = omega arith
steps_behind (suc n) (suc m) (t ∷ ts) less = steps_behind n m ts (omega (arith, less))

-- a routine is one of those from its own place on
steps_here : (n : ℕ) (ts : List Routine) (t : Routine) → slice_get ts n ≡ Some t → length t.body.instructions * suc (most_steps (drop (suc n) ts)) ≤ most_steps (drop n ts)
steps_here n [] t is = absurd (none-some t is)
steps_here zero (s ∷ ts) t is =
    let same : s ≡ t = by is in
    subst (λ u. length u.body.instructions * suc (most_steps ts) ≤ length s.body.instructions * suc (most_steps ts) + most_steps ts) same (omega arith)
  where
    by : Some s ≡ Some t → s ≡ t
    by is = cc
steps_here (suc n) (s ∷ ts) t is = steps_here n ts t is

-- ---- what paths count

weight_within : (budgets : List ℕ) (most : ℕ) (i : Instr) → ((r l : ℕ) → i ≡ instr.Invoke r l → slice_index budgets r ≤ most) → weight budgets i ≤ suc most
weight_within budgets most (instr.Invoke r l) few = let here = few r l refl in omega (arith, here)
weight_within budgets most i few = omega arith

-- a path counts at most as many for each of its instructions
counted_within : (p : Program) (budgets : List ℕ) (most : ℕ) → ((a : ℕ) (i : Instr) → IsAt p a i → weight budgets i ≤ suc most) → {a : ℕ} {path : List ℕ} → IsPathFrom p a path → counted p budgets path ≤ length path * suc most
counted_within p budgets most few {a} (alone inside) =
    let here = slice_get-get_or p.instructions a instr.Load inside in
    let i = get_or p.instructions a instr.Load in
    let one : 1 * suc most ≡ suc most = one-mul (suc most) in
    omega (arith, counted_at p budgets a i [] here, few a i here, one)
counted_within p budgets most few (onward {a} {b} {path} edge rest) =
    let further = counted_within p budgets most few rest in
    let more : suc (length path) * suc most ≡ length path * suc most + suc most = suc-mul (length path) (suc most) in
    omega (arith, further, counted_at p budgets a edge.instr path edge.here, few a edge.instr edge.here, more)

module _ (p : Program) (main : p.around.number ≡ 0) (typed : IsTyped p) where
  abbrev ts : List Routine
  ts = p.around.routines

  forward : (b : ℕ) → b ≤ length ts → AreJumpsForward (body_of p b)
  forward b inside c d i here to =
      let body = typed.bodies b inside in
      let target = (typed_here (body_of p b) body.0 body.1 c i here).typed.target in
      let target = rw to at target in
      (target.ahead, target.inside)

  -- the count of a body, if those of the bodies after it are within this limit
  body_within : (b : ℕ) → b ≤ length ts → ((r : ℕ) → b < r → r ≤ length ts → slice_index typed.budgets r ≤ most_steps (drop b ts)) → slice_index typed.budgets b ≤ length (body_of p b).instructions * suc (most_steps (drop b ts))
  body_within b inside later = elim (typed.limits.each b (omega arith) inside).reached [
    | inl path ↦ counts path.0 path.1 path.2
    | inr none ↦ omega (arith, none.1)
  ]
    where
      few : (a : ℕ) (i : Instr) → IsAt (body_of p b) a i → weight typed.budgets i ≤ suc (most_steps (drop b ts))
      few a i here = weight_within typed.budgets (most_steps (drop b ts)) i by
        where
          by : (r l : ℕ) → i ≡ instr.Invoke r l → slice_index typed.budgets r ≤ most_steps (drop b ts)
          by r l is =
              let body = typed.bodies b inside in
              let placed = (typed_here (body_of p b) body.0 body.1 a (instr.Invoke r l) (subst (IsAt (body_of p b) a) is here)).typed.placed in
              let there = counted_routine p r (subst IsSome (same_routine p b r) placed.1) in
              later r (omega (arith, placed.0, number_of_body p b main)) there

      counts : (path : List ℕ) → IsPathFrom (body_of p b) 0 path → counted (body_of p b) typed.budgets path ≡ slice_index typed.budgets b → slice_index typed.budgets b ≤ length (body_of p b).instructions * suc (most_steps (drop b ts))
      counts path from is =
          let within = counted_within (body_of p b) typed.budgets (most_steps (drop b ts)) few from in
          let short = path_fits (forward b inside) from in
          let most = mul-le (length path) (suc (most_steps (drop b ts))) (length (body_of p b).instructions) (suc (most_steps (drop b ts))) (omega (arith, short)) (omega arith) in
          omega (arith, within, most, is)

  -- a routine counts no more than all from its own place on
  routine_within : (r : ℕ) → suc r ≤ length ts → slice_index typed.budgets (suc r) ≤ length (body_of p (suc r)).instructions * suc (most_steps (drop (suc r) ts)) → slice_index typed.budgets (suc r) ≤ most_steps (drop r ts)
  routine_within r inside within = by (slice_get ts r) refl within
    where
      by : (t : Option Routine) → slice_get ts r ≡ t → slice_index typed.budgets (suc r) ≤ length (routine_body p (suc r) t).instructions * suc (most_steps (drop (suc r) ts)) → slice_index typed.budgets (suc r) ≤ most_steps (drop r ts)
      by None is within =
          let none : length (routine_body p (suc r) None).instructions * suc (most_steps (drop (suc r) ts)) ≡ 0 = zero-mul (suc (most_steps (drop (suc r) ts))) in
          omega (arith, within, none)
      by (Some t) is within =
          let here = steps_here r ts t is in
          omega (arith, within, here)

  -- from the last body to the first
  bodies_within : (most r : ℕ) → r ≤ length ts → length ts ≤ r + most → 0 < r → (b : ℕ) → b < r → slice_index typed.budgets r ≤ most_steps (drop b ts)
  bodies_within most zero inside left some b before = absurd (omega (arith, some))
  bodies_within zero (suc r) inside left some b before =
      let own = body_within (suc r) inside (λ q behind there. absurd (omega (arith, behind, there, left))) in
      let here = routine_within r inside own in
      let fewer = steps_behind b r ts (omega (arith, before)) in
      omega (arith, here, fewer)
  bodies_within (suc most) (suc r) inside left some b before =
      let own = body_within (suc r) inside (λ q behind there. bodies_within most q there (omega (arith, behind, left)) (omega (arith, behind)) (suc r) behind) in
      let here = routine_within r inside own in
      let fewer = steps_behind b r ts (omega (arith, before)) in
      omega (arith, here, fewer)

  -- the budget of the main body
  budget_within : slice_index typed.budgets 0 ≤ length p.instructions * suc (most_steps ts)
  budget_within = body_within 0 (omega arith) (λ r behind there. bodies_within (length ts) r there (omega arith) behind 0 behind)

  -- what has ended stays so
  over_stays : (object : Datum) (n : ℕ) (a : Option Datum) → after p object n (Over a) ≡ Over a
  over_stays object zero a = refl
  over_stays object (suc n) a = refl

  -- a run has ended after as many steps, and after more
  run_over : (object : Datum) (n m : ℕ) (x : Whole) (a : Option Datum) → n ≤ m → EndsFrom p object n x a → after p object m x ≡ Over a
  run_over object zero m (Over y) a less ends = over_stays object m y ∙ ap Over (sym ends)
  run_over object (suc n) m (Over y) a less ends = absurd ends
  run_over object (suc n) (suc m) (Running s ws) a less ends = run_over object n m (turn p object s ws) a (omega (arith, less)) ends
  run_over object (suc n) zero (Running s ws) a less ends = absurd (omega (arith, less))
  run_over object zero m (Running s ws) a less ends = absurd ends
  run_over object zero m (Left o) a less ends = absurd ends
  run_over object (suc n) m (Left o) a less ends = absurd ends
  run_over object zero m Lost a less ends = absurd ends
  run_over object (suc n) m Lost a less ends = absurd ends

  -- each run has ended by then
  ended_by : (object : Datum) (n : ℕ) (a : Option Datum) → HasRun p object n a → after p object (length p.instructions * suc (most_steps ts)) (begin p) ≡ Over a
  ended_by object n a run =
      let within = run_within p object n a _ (typed.budgets, typed.limits, refl) run in
      run_over object n (length p.instructions * suc (most_steps ts)) (begin p) a (omega (arith, within, budget_within)) run

  -- with the code's answer
  pub ends_with : (object : Datum) (n : ℕ) (a : Option Datum) → HasRun p object n a → a ≡ answer_of p object
  unfolding answer_of
  ends_with object n a run = sym (ap end_answer (ended_by object n a run))
