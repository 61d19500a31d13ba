-- How far a run over all bodies has come, turn by turn.
use Rattle.std.proofs.Common.{◌≡◌, ℕ, zero, suc, ◌+◌, ◌≤◌, List, [], ◌∷◌, ◌++◌, length, reverse, Option, refl, sym, ap, subst, ◌∙◌, arith}
use Rattle.std.proofs.lemmas.List.{reverse-append}
use Rattle.term_core.specs.Datum.{Datum}
use Rattle.mcode.specs.Machine.{State, Outcome, step}
use Rattle.mcode.specs.Machine.Outcome.{Ends, Leaves}
use Rattle.mcode.specs.Program.{Program, Routine, routine_at, own_routine, body_of}
use Rattle.mcode.proofs.BodyLemmas.{same_routine, own_of_body}
use Rattle.mcode.specs.Run as run
use Rattle.mcode.specs.Run.{Whole, entry, resumed, follow, begin, EndsFrom, HasRun}
use Rattle.mcode.specs.Run.Whole.{Running, Over, Left, Lost}
use Rattle.budget.specs.Paths.{most_budget}
use Rattle.verifier.specs.Typing.{IsTyped}
use Rattle.machine_step.specs.Fits.{IsResult}
use Rattle.machine_bodies.specs.Stands.{Stands, IsWaiting, IsInvoked, IsLeft, GoesTo, state_of}
use Rattle.machine_bodies.specs.Going.{AreWaiting, Going}
use Rattle.machine_bodies.specs.declared.activation.Activation.{Activation}
use Rattle.machine_bodies.proofs.RunLemmas.{run_ends}
use Rattle.machine_bodies.proofs.WalkLemmas.{run_within}

module _ {A : Type 0} {p : Program} {object : Datum} {current : Activation A} {waiting : List (Activation A)} {executed : ℕ} (going : Going p object current waiting executed) where
  abbrev o : Outcome
  o = step current.body object (state_of current going.stands.slots)

  -- one instruction is executed, and `left` are left
  turned : (left : ℕ) × (executed + 1 + left ≡ executed + going.left) × EndsFrom p object left (follow p going.body going.states o) going.answer
  turned = by going.left refl going.ends
    where
      by : (n : ℕ) → going.left ≡ n
          → EndsFrom p object n (Running (record { body = going.body; state = state_of current going.stands.slots }) going.states) going.answer
          → (left : ℕ) × (executed + 1 + left ≡ executed + going.left) × EndsFrom p object left (follow p going.body going.states o) going.answer
      by zero is ends = absurd ends
      by (suc n) is ends = (
        n,
        omega (arith, is),
        subst (λ q. EndsFrom p object n (follow p going.body going.states (step q object (state_of current going.stands.slots))) going.answer) (sym going.seen) ends,
      )

  -- there is one more
  pub some_left : executed + 1 ≤ most_budget
  some_left = omega (arith, turned.1, going.few)

  -- the run goes on from what its step comes to
  goes_from : {new : Activation A} {acts : List (Activation A)} (body : ℕ) (states : List run.Activation) (after : Stands new) → new.body ≡ body_of p body → AreWaiting p body (reverse acts) states
      → follow p going.body going.states o ≡ Running (record { body = body; state = state_of new after.slots }) states
      → Going p object new acts (executed + 1)
  goes_from {new} {acts} body states after seen waits is = record {
    body = body;
    states = states;
    left = turned.0;
    answer = going.answer;
    main = going.main;
    whole = subst (λ n. HasRun p object n going.answer) (sym turned.1) going.whole;
    few = omega (arith, turned.1, going.few);
    seen = seen;
    stands = after;
    waits = waits;
    ends = subst (λ w. EndsFrom p object turned.0 w going.answer) is turned.2;
  }

  -- inside its body
  pub goes_on : {new : Activation A} → new.body ≡ current.body → GoesTo new o → Going p object new waiting (executed + 1)
  goes_on {new} body to =
      goes_from going.body going.states to.0 (body ∙ going.seen) going.waits (ap (follow p going.body going.states) to.1)

  -- or it has ended
  pub over : (a : Option Datum) → o ≡ Ends a → HasRun p object (executed + 1) a
  over a is =
      let last = ends going.states (subst (λ u. EndsFrom p object turned.0 (follow p going.body going.states u) going.answer) is turned.2) in
      let all : executed + going.left ≡ executed + 1 = omega (arith, turned.1, last.0) in
      subst (λ n. HasRun p object n a) all (subst (HasRun p object (executed + going.left)) last.1 going.whole)
    where
      over_is : (n : ℕ) → EndsFrom p object n (Over a) going.answer → (n ≡ 0) × (going.answer ≡ a)
      over_is zero is = (refl, is)
      over_is (suc n) is = absurd is

      lost_is : (n : ℕ) → EndsFrom p object n Lost going.answer → ⊥
      lost_is zero is = is
      lost_is (suc n) is = is

      ends : (states : List run.Activation) → EndsFrom p object turned.0 (follow p going.body states (Ends a)) going.answer → (turned.0 ≡ 0) × (going.answer ≡ a)
      ends [] is = over_is turned.0 is
      ends (w ∷ ws) is = absurd (lost_is turned.0 is)

  -- a routine is entered
  pub entered_goes : {waits entered : Activation A} (r : ℕ) → waits.body ≡ current.body → entered.body ≡ body_of p r → IsInvoked r waits entered o → Going p object entered (waiting ++ waits ∷ []) (executed + 1)
  entered_goes {waits} {entered} r body entered_body invoked =
      goes_from r (record { body = going.body; state = invoked.state } ∷ going.states) invoked.stands entered_body
      (subst (λ acts. AreWaiting p r acts (record { body = going.body; state = invoked.state } ∷ going.states)) (sym (reverse-append waiting (waits ∷ [])))
      (body ∙ going.seen, waiting_here, going.waits))
      (ap (follow p going.body going.states) invoked.is
      ∙ ap (λ s. Running (record { body = r; state = s }) (record { body = going.body; state = invoked.state } ∷ going.states)) (sym (invoked.begins ∙ ap (λ q. entry q invoked.arguments) entered_body)))
    where
      waiting_here : IsWaiting (routine_at p r) waits invoked.state
      waiting_here = subst (λ t. IsWaiting t waits invoked.state) (ap (λ q. routine_at q r) (body ∙ going.seen) ∙ same_routine p going.body r) invoked.waiting

  -- a routine is left, for which one waits
  module _ (given : Option Datum) (left : IsLeft current.body given o) where
    left_is : EndsFrom p object turned.0 (follow p going.body going.states (Leaves given)) going.answer
    left_is = subst (λ u. EndsFrom p object turned.0 (follow p going.body going.states u) going.answer) left.0 turned.2

    -- it may end so
    good : IsResult (routine_at p going.body) given
    good = subst (λ t. IsResult t given) (ap own_routine going.seen ∙ own_of_body p going.body going.main) left.1

    none_left : (n : ℕ) → EndsFrom p object n (Left given) going.answer → ⊥
    none_left zero is = is
    none_left (suc n) is = is

    -- the nearest of those that wait
    waits_there : (acts : List (Activation A)) (states : List run.Activation) → AreWaiting p going.body acts states → EndsFrom p object turned.0 (follow p going.body states (Leaves given)) going.answer → acts ≡ [] → ⊥
    waits_there [] [] are ends none = none_left turned.0 ends
    waits_there [] (w ∷ ws) are ends none = are
    waits_there (act ∷ acts) states are ends none = absurd (omega (arith, ap length none))

    pub one_waits : waiting ≡ [] → ⊥
    one_waits none = waits_there (reverse waiting) going.states going.waits left_is (ap reverse none)

    module _ (waits : Activation A) (rest : List (Activation A)) (popped : waiting ≡ rest ++ waits ∷ []) where
      first : AreWaiting p going.body (waits ∷ reverse rest) going.states
      first = subst (λ acts. AreWaiting p going.body acts going.states) (ap reverse popped ∙ reverse-append rest (waits ∷ [])) going.waits

      -- what it waits in, and for
      abbrev Found : List run.Activation → Type 0
      Found states =
          (w : run.Activation) × (ws : List run.Activation) × (states ≡ w ∷ ws)
          × (waits.body ≡ body_of p w.body) × IsWaiting (routine_at p going.body) waits w.state × AreWaiting p w.body (reverse rest) ws

      found : Found going.states
      found = by going.states first
        where
          by : (states : List run.Activation) → AreWaiting p going.body (waits ∷ reverse rest) states → Found states
          by [] are = absurd are
          by (w ∷ ws) are = (w, ws, refl, are.0, are.1, are.2)

      pub waits_here : (t : Option Routine) × (s : State) × IsWaiting t waits s × IsResult t given
      waits_here = (routine_at p going.body, found.0.state, found.4, good)

      -- it goes on
      pub left_goes : {new : Activation A} → new.body ≡ waits.body → ((t : Option Routine) (s : State) → IsWaiting t waits s → IsResult t given → GoesTo new (resumed waits.body s given)) → Going p object new rest (executed + 1)
      left_goes {new} body on =
          let to = on (routine_at p going.body) found.0.state found.4 good in
          goes_from found.0.body found.1 to.0 (body ∙ found.3) found.5
          (ap (follow p going.body going.states) left.0
          ∙ ap (λ states. follow p going.body states (Leaves given)) found.2
          ∙ ap (λ q. follow p found.0.body found.1 (resumed q found.0.state given)) (sym found.3)
          ∙ ap (follow p found.0.body found.1) to.1)

-- a run begins
pub going_first : {A : Type 0} (p : Program) (object : Datum) {current : Activation A} → p.around.number ≡ 0 → IsTyped p → current.body ≡ p → (stands : Stands current) → state_of current stands.slots ≡ entry p [] → Going p object current [] 0
going_first p object {current} main typed body stands first =
    let run = run_ends p object main typed in
    let none : run.0 ≡ 0 + run.0 = omega arith in
    record {
      body = 0;
      states = [];
      left = run.0;
      answer = run.1;
      main = main;
      whole = subst (λ n. HasRun p object n run.1) none run.2;
      few = omega (arith, run_within p object run.0 run.1 _ (typed.budgets, typed.limits, refl) run.2, typed.few 0);
      seen = body;
      stands = stands;
      waits = tt;
      ends = subst (λ s. EndsFrom p object run.0 (Running (record { body = 0; state = s }) []) run.1) (sym first) run.2;
    }
