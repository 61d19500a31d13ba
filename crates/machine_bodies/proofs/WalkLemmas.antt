-- A run over all bodies walks along the edges of each, typed or not.
use Rattle.std.specs.Prelude.{IsSome, nat_lt}
use Rattle.std.specs.Option.{option_and_then}
use Rattle.std.proofs.Common.{◌≡◌, ℕ, zero, suc, ◌+◌, ◌<◌, ◌≤◌, Bool, true, false, cond, List, [], ◌∷◌, length, slice_get, Option, Some, None, refl, sym, ap, subst, ◌∙◌, arith}
use Rattle.std.proofs.lemmas.Option.{same_Some, none-some, slice_get_within}
use Rattle.term_core.specs.Datum.{Datum}
use Rattle.mcode.specs.Instr.{target_of, goes_on}
use Rattle.mcode.specs.Machine.{Bindings, State, Outcome, cut, landing, jump, does, outcome_at}
use Rattle.mcode.specs.Machine.Outcome.{Goes, Ends, Enters, Leaves, Stuck}
use Rattle.mcode.specs.Program.{Program, Routine, frame_at, routine_at, body_of}
use Rattle.mcode.specs.Run.{Activation, entry, otherwise, resumed, follow, EndsFrom, HasRun}
use Rattle.mcode.specs.Run.Whole.{Running, Over, Left, Lost}
use Rattle.mcode.specs.declared.instr.Instr.{Instr}
use Rattle.mcode.specs.declared.instr.Instr.TheVariants as instr
use Rattle.budget.specs.Paths.{HasEdge, IsPathFrom, AreBudgets, IsBudget, weight, counted}
use Rattle.budget.specs.Paths.IsPathFrom.{alone, onward}
use Rattle.budget.proofs.PathLemmas.{weight_some, counted_at}
use Rattle.machine_bodies.proofs.EdgeLemmas.{LeadsOut, invoked_of, next_leads, jump_leads, does_leads}
use Rattle.mcode.proofs.BodyLemmas.{same_routine, counted_routine}

-- the instruction that invokes a routine
invoked_is : (i : Instr) (r : ℕ) → invoked_of i ≡ Some r → (l : ℕ) × (i ≡ instr.Invoke r l)
invoked_is (instr.Invoke s l) r is = (l, ap (λ n. instr.Invoke n l) (same_Some s r is))
invoked_is instr.Load r is = absurd (none-some r is)
invoked_is i r is = absurd (none-some r is)

path_inside : {q : Program} {a : ℕ} {path : List ℕ} → IsPathFrom q a path → a < length q.instructions
path_inside (alone inside) = inside
path_inside {q} {a} (onward edge rest) = slice_get_within q.instructions a edge.instr edge.here

-- a body that has waited goes on, or is stuck
abbrev GoesOrNot : Outcome → Type 0
GoesOrNot (Goes s) = Unit {0}
GoesOrNot Stuck = Unit {0}
GoesOrNot o = ⊥

landed_or_not : (target : ℕ) (slots : Bindings) (o : Option (List Datum)) → GoesOrNot (landing target slots o)
landed_or_not target slots None = tt
landed_or_not target slots (Some stack) = tt

jump_or_not : (q : Program) (target : ℕ) (stack : List Datum) (slots : Bindings) → GoesOrNot (jump q target stack slots)
jump_or_not q target stack slots = by (nat_lt target (length q.instructions))
  where
    by : (b : Bool) → GoesOrNot (cond b (landing target slots (option_and_then (λ f. cut stack f.depth) (frame_at q.frames target))) Stuck)
    by true = landed_or_not target slots (option_and_then (λ f. cut stack f.depth) (frame_at q.frames target))
    by false = tt

resumed_or_not : (q : Program) (s : State) (r l : ℕ) (o : Option Datum) → slice_get q.instructions s.pc ≡ Some (instr.Invoke r l) → GoesOrNot (resumed q s o)
resumed_or_not q s r l (Some d) here = tt
resumed_or_not q s r l None here =
    subst (λ i. GoesOrNot (otherwise q s (option_and_then target_of i))) (sym here) (jump_or_not q l s.stack s.slots)

resumed_leads : (q : Program) (s : State) (r l : ℕ) (o : Option Datum) → slice_get q.instructions s.pc ≡ Some (instr.Invoke r l) → LeadsOut true (Some l) None s.pc (resumed q s o)
resumed_leads q s r l (Some d) here = next_leads None (Some l) s.pc (d ∷ s.stack) s.slots
resumed_leads q s r l None here =
    subst (λ i. LeadsOut true (Some l) None s.pc (otherwise q s (option_and_then target_of i))) (sym here) (jump_leads q s.pc s.slots None true l s.stack)

module _ (p : Program) (object : Datum) (x : Option Datum) (budgets : List ℕ) (are : AreBudgets p 0 budgets) where
  over_ends : (n : ℕ) (y : Option Datum) → EndsFrom p object n (Over y) x → n ≡ 0
  over_ends zero y ends = refl
  over_ends (suc n) y ends = absurd ends

  left_ends : (n : ℕ) (o : Option Datum) → EndsFrom p object n (Left o) x → ⊥
  left_ends zero o ends = ends
  left_ends (suc n) o ends = ends

  lost_ends : (n : ℕ) → EndsFrom p object n Lost x → ⊥
  lost_ends zero ends = ends
  lost_ends (suc n) ends = ends

  -- each body that waits is at an instruction that invokes a routine
  abbrev AreInvoking : List Activation → Type 0
  AreInvoking [] = Unit {0}
  AreInvoking (w ∷ ws) =
      (w.body ≤ length p.around.routines) × (r : ℕ) × (l : ℕ)
      × (slice_get (body_of p w.body).instructions w.state.pc ≡ Some (instr.Invoke r l)) × AreInvoking ws

  -- what is left of the paths of bodies that wait counts so much
  abbrev Rest : List Activation → ℕ → Type 0
  Rest [] total = total ≡ 0
  Rest (w ∷ ws) total =
      (first : ℕ) × (path : List ℕ) × (more : ℕ) × HasEdge (body_of p w.body) w.state.pc first × IsPathFrom (body_of p w.body) first path
      × Rest ws more × (total ≡ counted (body_of p w.body) budgets path + more)

  -- a path of the body that runs, and what is left of those that wait, count at least n instructions
  abbrev Walk : ℕ → Activation → List Activation → Type 0
  Walk n a ws =
      (path : List ℕ) × (total : ℕ) × IsPathFrom (body_of p a.body) a.state.pc path × Rest ws total
      × (n ≤ counted (body_of p a.body) budgets path + total)

  abbrev Later : ℕ → Type 0
  Later n =
      (a : Activation) (ws : List Activation) → a.body ≤ length p.around.routines → AreInvoking ws
      → EndsFrom p object n (Running a ws) x → Walk n a ws

  module _ (n b : ℕ) (s : State) (inside : b ≤ length p.around.routines) (later : Later n) (i : Instr) (here : slice_get (body_of p b).instructions s.pc ≡ Some i) where
    abbrev Here : List Activation → Type 0
    Here ws = Walk (suc n) (record { body = b; state = s }) ws

    last_one : IsPathFrom (body_of p b) s.pc (s.pc ∷ [])
    last_one = alone (slice_get_within (body_of p b).instructions s.pc i here)

    gone : (t : State) (ws : List Activation) → AreInvoking ws → LeadsOut (goes_on i) (target_of i) (invoked_of i) s.pc (Goes t) → EndsFrom p object n (Running (record { body = b; state = t }) ws) x → Here ws
    gone t ws waiting leads ends =
        let walk = later (record { body = b; state = t }) ws inside waiting ends in
        let edge : HasEdge (body_of p b) s.pc t.pc = record { instr = i; here = here; leads = leads; inside = path_inside walk.2 } in
        (s.pc ∷ walk.0, walk.1, onward edge walk.2, walk.3, omega (arith, walk.4, counted_at (body_of p b) budgets s.pc i walk.0 here, weight_some budgets i))

    ended : (y : Option Datum) (ws : List Activation) → EndsFrom p object n (follow p b ws (Ends y)) x → Here ws
    ended y [] ends =
        (s.pc ∷ [], 0, last_one, refl, omega (arith, over_ends n y ends, counted_at (body_of p b) budgets s.pc i [] here, weight_some budgets i))
    ended y (w ∷ ws) ends = absurd (lost_ends n ends)

    entered : (r l : ℕ) (arguments : List Datum) (t : State) (ws : List Activation) → AreInvoking ws → i ≡ instr.Invoke r l → t.pc ≡ s.pc → IsSome (routine_at p r)
        → EndsFrom p object n (follow p b ws (Enters r arguments t)) x → Here ws
    entered r l arguments t ws waiting is same there ends =
        let counted_r = counted_routine p r there in
        let here_t : slice_get (body_of p b).instructions t.pc ≡ Some (instr.Invoke r l) = ap (λ pc. slice_get (body_of p b).instructions pc) same ∙ here ∙ ap Some is in
        let walk = later (record { body = r; state = entry (body_of p r) arguments }) (record { body = b; state = t } ∷ ws) counted_r (inside, r, l, here_t, waiting) ends in
        let rest = walk.3 in
        let edge : HasEdge (body_of p b) s.pc rest.0 = subst (λ pc. HasEdge (body_of p b) pc rest.0) same rest.3 in
        let bound = (are.each r (omega arith) counted_r).greatest walk.0 walk.2 in (
          s.pc ∷ rest.1,
          rest.2,
          onward edge rest.4,
          rest.5,
          omega (arith, walk.4, bound, rest.6, counted_at (body_of p b) budgets s.pc i rest.1 here, ap (weight budgets) is),
        )

    left : (o : Option Datum) (ws : List Activation) → AreInvoking ws → EndsFrom p object n (follow p b ws (Leaves o)) x → Here ws
    left o [] waiting ends = absurd (left_ends n o ends)
    left o (w ∷ ws) waiting ends =
        by (resumed (body_of p w.body) w.state o) (resumed_or_not (body_of p w.body) w.state waiting.1 waiting.2 o waiting.3)
        (resumed_leads (body_of p w.body) w.state waiting.1 waiting.2 o waiting.3) ends
      where
        by : (u : Outcome) → GoesOrNot u → LeadsOut true (Some waiting.2) None w.state.pc u → EndsFrom p object n (follow p w.body ws u) x → Here (w ∷ ws)
        by (Goes t) fine leads ends =
            let walk = later (record { body = w.body; state = t }) ws waiting.0 waiting.4 ends in
            let edge : HasEdge (body_of p w.body) w.state.pc t.pc = record { instr = instr.Invoke waiting.1 waiting.2; here = waiting.3; leads = leads; inside = path_inside walk.2 } in
            let total = counted (body_of p w.body) budgets walk.0 + walk.1 in (
              s.pc ∷ [],
              total,
              last_one,
              (t.pc, walk.0, walk.1, edge, walk.2, walk.3, refl),
              omega (arith, walk.4, counted_at (body_of p b) budgets s.pc i [] here, weight_some budgets i),
            )
        by (Ends y) wrong leads ends = absurd wrong
        by (Enters r arguments t) wrong leads ends = absurd wrong
        by (Leaves o) wrong leads ends = absurd wrong
        by Stuck fine leads ends = absurd (lost_ends n ends)

    out : (u : Outcome) (ws : List Activation) → AreInvoking ws → does (body_of p b) object i s.pc s.stack s.slots ≡ u → LeadsOut (goes_on i) (target_of i) (invoked_of i) s.pc u → EndsFrom p object n (follow p b ws u) x → Here ws
    out (Goes t) ws waiting is leads ends = gone t ws waiting leads ends
    out (Ends y) ws waiting is leads ends = ended y ws ends
    out (Enters r arguments t) ws waiting is leads ends =
        let named = invoked_is i r leads.0 in
        let there = entered_there r named.0 (subst (λ j. does (body_of p b) object j s.pc s.stack s.slots ≡ Enters r arguments t) named.1 is) in
        entered r named.0 arguments t ws waiting named.1 leads.1 (subst IsSome (same_routine p b r) there) ends
      where
        entered_there : (r l : ℕ) → does (body_of p b) object (instr.Invoke r l) s.pc s.stack s.slots ≡ Enters r arguments t → IsSome (routine_at (body_of p b) r)
        entered_there r l is = by (routine_at (body_of p b) r) refl
          where
            by : (o : Option Routine) → routine_at (body_of p b) r ≡ o → IsSome o
            by (Some t) at = refl
            by None at = absurd (cc (is, at))
    out (Leaves o) ws waiting is leads ends = left o ws waiting ends
    out Stuck ws waiting is leads ends = absurd (lost_ends n ends)

  pub walks : (n : ℕ) → Later n
  walks zero a ws inside waiting ends = absurd ends
  walks (suc n) a ws inside waiting ends = by (slice_get (body_of p a.body).instructions a.state.pc) refl ends (walks n)
    where
      by : (o : Option Instr) → slice_get (body_of p a.body).instructions a.state.pc ≡ o → EndsFrom p object n (follow p a.body ws (outcome_at (body_of p a.body) object a.state o)) x → Later n → Walk (suc n) a ws
      by None here ends later = absurd (lost_ends n ends)
      by (Some i) here ends later =
          out n a.body a.state inside later i here (does (body_of p a.body) object i a.state.pc a.state.stack a.state.slots) ws waiting refl
          (does_leads (body_of p a.body) a.state.pc a.state.slots object i a.state.stack) ends

-- no run passes the budget
pub run_within : (p : Program) (object : Datum) (n : ℕ) (a : Option Datum) (budget : ℕ) → IsBudget p budget → HasRun p object n a → n ≤ budget
run_within p object n a budget is_budget run =
    let walk = walks p object a is_budget.0 is_budget.1 n (record { body = 0; state = entry p [] }) [] (omega arith) tt run in
    let most = (is_budget.1.each 0 (omega arith) (omega arith)).greatest walk.0 walk.2 in
    omega (arith, walk.4, most, walk.3, is_budget.2)
