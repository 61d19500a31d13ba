-- Runs over all bodies: one end, and that typed code comes to it.
use Rattle.std.specs.Prelude.{IsSome}
use Rattle.std.proofs.Common.{◌≡◌, ◌≢◌, ℕ, zero, suc, ◌+◌, ◌<◌, ◌≤◌, List, [], ◌∷◌, length, reverse, Option, refl, sym, ap, subst, ◌∙◌, arith}
use Rattle.term_core.specs.Datum.{Datum}
use Rattle.mcode.specs.Machine.{State, Outcome, step}
use Rattle.mcode.specs.Machine.Outcome.{Goes, Ends, Enters, Leaves, Stuck}
use Rattle.mcode.specs.Program.{Program, routine_at, body_of}
use Rattle.mcode.specs.Run.{Activation, Whole, entry, resumed, follow, turn, begin, EndsFrom, HasRun, after}
use Rattle.mcode.specs.Run.Whole.{Running, Over, Left, Lost}
use Rattle.verifier_types.specs.Effect.{arguments_of}
use Rattle.verifier.specs.Typing.{IsTyped}
use Rattle.machine_step.specs.Fits.{AreOf, IsFit, IsResult, GoesOn, Waits, Continues}
use Rattle.machine_step.proofs.StepLemmas.{entry_fits, step_continues}
use Rattle.mcode.proofs.BodyLemmas.{number_of_body, same_routine, own_of_body, counted_routine}
use Rattle.machine_bodies.proofs.SeenLemmas.{body_seen}

-- ---- one end

pub run_is_one : (p : Program) (object : Datum) (n m : ℕ) (x : Whole) (a b : Option Datum) → EndsFrom p object n x a → EndsFrom p object m x b → (n ≡ m) × (a ≡ b)
run_is_one p object zero zero (Over y) a b of_a of_b = (refl, of_a ∙ sym of_b)
run_is_one p object zero (suc m) (Over y) a b of_a of_b = absurd of_b
run_is_one p object (suc n) m (Over y) a b of_a of_b = absurd of_a
run_is_one p object (suc n) (suc m) (Running s ws) a b of_a of_b =
    let rest = run_is_one p object n m (turn p object s ws) a b of_a of_b in
    (ap suc rest.0, rest.1)
run_is_one p object zero m (Running s ws) a b of_a of_b = absurd of_a
run_is_one p object (suc n) zero (Running s ws) a b of_a of_b = absurd of_b
run_is_one p object zero m (Left o) a b of_a of_b = absurd of_a
run_is_one p object (suc n) m (Left o) a b of_a of_b = absurd of_a
run_is_one p object zero m Lost a b of_a of_b = absurd of_a
run_is_one p object (suc n) m Lost a b of_a of_b = absurd of_a

-- what ends is never lost
pub not_lost : (p : Program) (object : Datum) (m : ℕ) (x : Whole) (a : Option Datum) → EndsFrom p object m x a → (n : ℕ) → after p object n x ≢ Lost
not_lost p object zero (Over y) a ends zero = λ e. absurd (cc)
not_lost p object zero (Over y) a ends (suc n) = λ e. absurd (cc)
not_lost p object (suc m) (Running s ws) a ends zero = λ e. absurd (cc)
not_lost p object (suc m) (Running s ws) a ends (suc n) = not_lost p object m (turn p object s ws) a ends n
not_lost p object (suc m) (Over y) a ends n = absurd ends
not_lost p object zero (Running s ws) a ends n = absurd ends
not_lost p object zero (Left o) a ends n = absurd ends
not_lost p object (suc m) (Left o) a ends n = absurd ends
not_lost p object zero Lost a ends n = absurd ends
not_lost p object (suc m) Lost a ends n = absurd ends

-- ---- typed code ends

module _ (p : Program) (object : Datum) (main : p.around.number ≡ 0) (typed : IsTyped p) where
  count : ℕ
  count = length p.around.routines

  -- a state of a body that is as the verifier says
  abbrev Fits : (b : ℕ) → b ≤ length p.around.routines → State → Type 0
  Fits b inside s = IsFit (body_of p b) (typed.bodies b inside).0 s

  -- a body makes `steps` steps to its end with this result, whichever bodies wait
  pub record Leads (b : ℕ) (s : State) (steps : ℕ) (o : Option Datum) : Type 0 where
    pub good : IsResult (routine_at p b) o
    pub leads : (ws : List Activation) (n m : ℕ) (a : Option Datum) → m ≡ steps + n
        → EndsFrom p object n (follow p b ws (Leaves o)) a
        → EndsFrom p object m (Running (record { body = b; state = s }) ws) a

  abbrev Finishes : ℕ → State → Type 0
  Finishes b s = (steps : ℕ) × (o : Option Datum) × Leads b s steps o

  -- a routine does so from its beginning
  abbrev FinishesAll : ℕ → Type 0
  FinishesAll r =
      (arguments : List Datum) → AreOf (reverse (arguments_of (routine_at p r))) arguments
      → Finishes r (entry (body_of p r) arguments)

  -- one step more
  leads_more : (b : ℕ) (s : State) (ws : List Activation) (n m : ℕ) (a : Option Datum) (u : Outcome) → step (body_of p b) object s ≡ u → m ≡ suc n → EndsFrom p object n (follow p b ws u) a
      → EndsFrom p object m (Running (record { body = b; state = s }) ws) a
  leads_more b s ws n zero a u is more ends = absurd (omega (arith, more))
  leads_more b s ws n (suc m) a u is more ends =
      let same : n ≡ m = omega (arith, more) in
      subst (λ v. EndsFrom p object m (follow p b ws v) a) (sym is) (subst (λ k. EndsFrom p object k (follow p b ws u) a) same ends)

  module _ (b : ℕ) (inside : b ≤ length p.around.routines) where
    q : Program
    q = body_of p b

    -- where the body goes on it comes to a further state
    gone_on : (pc : ℕ) (u : Outcome) → GoesOn (body_of p b) (typed.bodies b inside).0 pc u → (t : State) × (u ≡ Goes t) × (pc < t.pc) × Fits b inside t
    gone_on pc (Goes t) on = (t, refl, on.0, on.1)
    gone_on pc (Ends a) on = absurd on
    gone_on pc (Enters r arguments t) on = absurd on
    gone_on pc (Leaves o) on = absurd on
    gone_on pc Stuck on = absurd on

    -- the run after a routine that was invoked
    behind : ((r : ℕ) → b < r → r ≤ length p.around.routines → FinishesAll r) → (pc r : ℕ) (arguments : List Datum) (t : State) → Waits (body_of p b) (typed.bodies b inside).0 pc r arguments t
        → (steps : ℕ) × (o : Option Datum) × (v : State) × (pc < v.pc) × Fits b inside v
        × ((ws : List Activation) (n m : ℕ) (a : Option Datum) → m ≡ steps + n → EndsFrom p object n (Running (record { body = b; state = v }) ws) a
        → EndsFrom p object m (follow p b ws (Enters r arguments t)) a)
    behind later pc r arguments t waits =
        let there : IsSome (routine_at p r) = subst IsSome (same_routine p b r) waits.routine in
        let are = subst (λ o. AreOf (reverse (arguments_of o)) arguments) (same_routine p b r) waits.kinds in
        let ran = later r (omega (arith, waits.behind, number_of_body p b main)) (counted_routine p r there) arguments are in
        let good = subst (λ o. IsResult o ran.1) (sym (same_routine p b r)) ran.2.good in
        let on = gone_on pc (resumed (body_of p b) t ran.1) (waits.goes ran.1 good) in (
          ran.0,
          ran.1,
          on.0,
          on.2,
          on.3,
          λ ws n m a is ends.
              ran.2.leads (record { body = b; state = t } ∷ ws) n m a is (subst (λ u. EndsFrom p object n (follow p b ws u) a) (sym on.1) ends),
        )

  -- a routine ends if those after it do: each step goes forward, so the instructions that are left run out
  finish_left : (b : ℕ) (inside : b ≤ length p.around.routines) → 0 < b → ((r : ℕ) → b < r → r ≤ length p.around.routines → FinishesAll r)
      → (most : ℕ) (s : State) → Fits b inside s → length (body_of p b).instructions ≤ s.pc + most → Finishes b s
  finish_left b inside some later zero s fits left = absurd (omega (arith, fits.inside, left))
  finish_left b inside some later (suc most) s fits left =
      by (step (body_of p b) object s) refl
      (step_continues (body_of p b) (typed.bodies b inside).0 (typed.bodies b inside).1 object (body_seen p b main inside) s fits)
      (finish_left b inside some later most)
    where
      by : (u : Outcome) → step (body_of p b) object s ≡ u → Continues (body_of p b) (typed.bodies b inside).0 s.pc u
          → ((t : State) → Fits b inside t → length (body_of p b).instructions ≤ t.pc + most → Finishes b t) → Finishes b s
      by (Goes t) is on rest =
          let then = rest t on.1 (omega (arith, on.0, left)) in (
            suc then.0,
            then.1,
            record {
              good = then.2.good;
              leads = λ ws n m a more ends. leads_more b s ws (then.0 + n) m a (Goes t) is (omega (arith, more)) (then.2.leads ws n (then.0 + n) a refl ends);
            },
          )
      by (Ends a) is on rest = absurd (omega (arith, some, on, number_of_body p b main))
      by (Enters r arguments t) is on rest =
          let on = behind b inside later s.pc r arguments t on in
          let then = rest on.2 on.4 (omega (arith, on.3, left)) in (
            suc (on.0 + then.0),
            then.1,
            record {
              good = then.2.good;
              leads = λ ws n m a more ends.
                  leads_more b s ws (on.0 + (then.0 + n)) m a (Enters r arguments t) is (omega (arith, more))
                  (on.5 ws (then.0 + n) (on.0 + (then.0 + n)) a refl (then.2.leads ws n (then.0 + n) a refl ends));
            },
          )
      by (Leaves o) is on rest = (
        1,
        o,
        record {
          good = subst (λ t. IsResult t o) (own_of_body p b main) on.1;
          leads = λ ws n m a more ends. leads_more b s ws n m a (Leaves o) is (omega (arith, more)) ends;
        },
      )
      by Stuck is on rest = absurd on

  -- from the last routine to the first
  finishes : (most b : ℕ) → 0 < b → b ≤ length p.around.routines → length p.around.routines ≤ b + most → FinishesAll b
  finishes zero b some inside left arguments are =
      finish_left b inside some (λ r behind there. absurd (omega (arith, behind, there, left))) (length (body_of p b).instructions)
      (entry (body_of p b) arguments) (enters b inside arguments are) (omega arith)
    where
      enters : (b : ℕ) (inside : b ≤ length p.around.routines) (arguments : List Datum) → AreOf (reverse (arguments_of (routine_at p b))) arguments → Fits b inside (entry (body_of p b) arguments)
      enters b inside arguments are =
          entry_fits (body_of p b) (typed.bodies b inside).0 (typed.bodies b inside).1 object arguments (subst (λ o. AreOf (reverse (arguments_of o)) arguments) (sym (own_of_body p b main)) are)
  finishes (suc most) b some inside left arguments are =
      finish_left b inside some (λ r behind there. finishes most r (omega (arith, behind)) there (omega (arith, behind, left))) (length (body_of p b).instructions)
      (entry (body_of p b) arguments)
      (entry_fits (body_of p b) (typed.bodies b inside).0 (typed.bodies b inside).1 object arguments (subst (λ o. AreOf (reverse (arguments_of o)) arguments) (sym (own_of_body p b main)) are))
      (omega arith)

  -- the main body ends the run
  main_left : (inside : 0 ≤ length p.around.routines) (most : ℕ) (s : State) → Fits 0 inside s → length p.instructions ≤ s.pc + most
      → (n : ℕ) × (a : Option Datum) × EndsFrom p object n (Running (record { body = 0; state = s }) []) a
  main_left inside zero s fits left = absurd (omega (arith, fits.inside, left))
  main_left inside (suc most) s fits left =
      by (step p object s) refl
      (step_continues p (typed.bodies 0 inside).0 (typed.bodies 0 inside).1 object (body_seen p 0 main inside) s fits)
      (main_left inside most)
    where
      by : (u : Outcome) → step p object s ≡ u → Continues p (typed.bodies 0 inside).0 s.pc u
          → ((t : State) → Fits 0 inside t → length p.instructions ≤ t.pc + most → (n : ℕ) × (a : Option Datum) × EndsFrom p object n (Running (record { body = 0; state = t }) []) a)
          → (n : ℕ) × (a : Option Datum) × EndsFrom p object n (Running (record { body = 0; state = s }) []) a
      by (Goes t) is on rest =
          let then = rest t on.1 (omega (arith, on.0, left)) in
          (suc then.0, then.1, leads_more 0 s [] then.0 (suc then.0) then.1 (Goes t) is refl then.2)
      by (Ends a) is on rest = (1, a, leads_more 0 s [] 0 1 a (Ends a) is refl refl)
      by (Enters r arguments t) is on rest =
          let on = behind 0 inside (λ r behind there. finishes (length p.around.routines) r (omega (arith, behind)) there (omega arith)) s.pc r arguments t on in
          let then = rest on.2 on.4 (omega (arith, on.3, left)) in (
            suc (on.0 + then.0),
            then.1,
            leads_more 0 s [] (on.0 + then.0) (suc (on.0 + then.0)) then.1 (Enters r arguments t) is refl (on.5 [] then.0 (on.0 + then.0) then.1 refl then.2),
          )
      by (Leaves o) is on rest = absurd (omega (arith, on.0, main))
      by Stuck is on rest = absurd on

  pub run_ends : (n : ℕ) × (a : Option Datum) × HasRun p object n a
  run_ends =
      let inside : 0 ≤ length p.around.routines = omega arith in
      let first = entry_fits p (typed.bodies 0 inside).0 (typed.bodies 0 inside).1 object [] (subst (λ o. AreOf (reverse (arguments_of o)) []) (sym (own_of_body p 0 main)) tt) in
      main_left inside (length p.instructions) (entry p []) first (omega arith)

  pub never_lost : (n : ℕ) → after p object n (begin p) ≢ Lost
  never_lost n = not_lost p object run_ends.0 (begin p) run_ends.1 run_ends.2 n
