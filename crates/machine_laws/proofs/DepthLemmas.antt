-- The stacks of all bodies of a run, and the depths that were found of them.
use Rattle.std.specs.Prelude.{IsSome}
use Rattle.std.proofs.Common.{◌≡◌, ℕ, zero, suc, ◌+◌, ◌-◌, ◌≤◌, Bool, true, false, cond, List, [], ◌∷◌, length, reverse, take, drop, get_or, slice_index, Option, Some, None, inl, inr, refl, sym, ap, subst, ◌∙◌, arith}
use Rattle.std.proofs.lemmas.List.{length-drop}
use Rattle.std.proofs.lemmas.Option.{none-some, same_Some, slice_get-get_or}
use Rattle.term_core.specs.Datum.{Datum}
use Rattle.mcode.specs.Machine.{Bindings, State, Outcome, all_hold, does, invoke_outcome, step}
use Rattle.mcode.specs.Machine.Outcome.{Goes, Ends, Enters, Leaves, Stuck}
use Rattle.mcode.specs.Program.{Program, Routine, routine_at, body_of}
use Rattle.mcode.specs.Run.{Activation, Whole, resumed, follow, turn, begin, after}
use Rattle.mcode.specs.Run.Whole.{Running, Over, Left, Lost}
use Rattle.mcode.specs.declared.instr.Instr.{Instr}
use Rattle.mcode.specs.declared.instr.Instr.TheVariants as instr
use Rattle.mcode.proofs.BodyLemmas.{same_routine, own_of_body, counted_routine}
use Rattle.verifier_types.specs.Effect.{arguments_of}
use Rattle.verifier_types.specs.Inner.{inner_depth}
use Rattle.verifier.specs.Typing.{AreBodyDepths, IsBodyDepth}
use Rattle.machine_step.specs.Fits.{AreOf, IsFit, IsResult, GoesOn, Continues}
use Rattle.machine_step.proofs.KindLemmas.{of_count}
use Rattle.machine_step.proofs.StepLemmas.{entry_fits, step_continues}
use Rattle.machine_bodies.proofs.EdgeLemmas.{does_leads, invoked_of}
use Rattle.machine_bodies.proofs.SeenLemmas.{body_seen}
use Rattle.machine_laws.specs.Laws.{places, waiting_places, RunsAreWithinDepth}

-- ---- the instruction that enters a routine

-- what is left on the stack of the body that waits
abbrev left_by : Outcome → List Datum
left_by (Goes s) = []
left_by (Ends a) = []
left_by (Enters r arguments s) = s.stack
left_by (Leaves o) = []
left_by Stuck = []

invoked : (i : Instr) (r : ℕ) → invoked_of i ≡ Some r → (l : ℕ) × (i ≡ instr.Invoke r l)
invoked (instr.Invoke k l) r is = (l, ap (λ m. instr.Invoke m l) (same_Some k r is))
invoked i r is = absurd (none-some r is)

-- an instruction that enters a routine invokes it
enters_invoked : (p : Program) (object : Datum) (i : Instr) (pc r : ℕ) (stack arguments : List Datum) (slots : Bindings) (t : State) → does p object i pc stack slots ≡ Enters r arguments t → (l : ℕ) × (i ≡ instr.Invoke r l)
enters_invoked p object i pc r stack arguments slots t is =
    let leads = does_leads p pc slots object i stack in
    let here = rw is at leads in
    invoked i r here.0

-- it leaves what is below the arguments
invoke_leaves : (r k pc : ℕ) (stack arguments : List Datum) (slots : Bindings) (t : State) (o : Option Routine) → invoke_outcome r pc stack slots o ≡ Enters k arguments t → t.stack ≡ drop (length (arguments_of o)) stack
invoke_leaves r k pc stack arguments slots t None is = absurd (cc)
invoke_leaves r k pc stack arguments slots t (Some f) is = by (all_hold (reverse f.arguments) (take (length f.arguments) stack)) is
  where
    s : State
    s = record { pc = pc; stack = drop (length f.arguments) stack; slots = slots }

    by : (b : Bool) → cond b (Enters r (take (length f.arguments) stack) s) Stuck ≡ Enters k arguments t → t.stack ≡ drop (length f.arguments) stack
    by true is = sym (ap left_by is)
    by false is = absurd (cc)

-- ---- a run

module _ (p : Program) (object : Datum) (main : p.around.number ≡ 0) (ds : List ℕ) (deep : AreBodyDepths p 0 ds) where
  abbrev depth_of : ℕ → ℕ
  depth_of b = slice_index ds b

  body : (b : ℕ) → b ≤ length p.around.routines → IsBodyDepth (body_of p b) ds (slice_index ds b)
  body b inside = deep.each b (omega arith) inside

  abbrev Fits : (b : ℕ) → b ≤ length p.around.routines → State → Type 0
  Fits b inside s = IsFit (body_of p b) (body b inside).shapes s

  -- a state is no deeper than its body
  stack_within : (b : ℕ) (inside : b ≤ length p.around.routines) (s : State) → Fits b inside s → length s.stack ≤ slice_index ds b
  stack_within b inside s fits =
      let found = slice_get-get_or (body_of p b).instructions s.pc instr.Load fits.inside in
      let kinds = ((body b inside).shapes s.pc).kinds in
      let below : length kinds ≤ slice_index ds b = (body b inside).most.greatest s.pc (get_or (body_of p b).instructions s.pc instr.Load) (length kinds) found (inl (inl refl)) in
      subst (λ n. n ≤ slice_index ds b) (of_count kinds s.stack fits.state.kinds) below

  -- the bodies that wait for one have room for it, and go on whatever it ends with
  abbrev AreUnder : ℕ → List Activation → Type 0
  AreUnder b [] = b ≡ 0
  AreUnder b (w ∷ ws) =
      (inside : w.body ≤ length p.around.routines) × (length w.state.stack + slice_index ds b ≤ slice_index ds w.body)
      × ((o : Option Datum) → IsResult (routine_at p b) o → GoesOn (body_of p w.body) (body w.body inside).shapes w.state.pc (resumed (body_of p w.body) w.state o))
      × AreUnder w.body ws

  under_within : (b : ℕ) (ws : List Activation) → AreUnder b ws → slice_index ds b + waiting_places ws ≤ slice_index ds 0
  under_within b [] under = subst (λ k. slice_index ds k + 0 ≤ slice_index ds 0) (sym under) (omega arith)
  under_within b (w ∷ ws) (inside, room, goes, under) = omega (arith, room, under_within w.body ws under)

  -- a run is within the depths
  abbrev IsWithin : Whole → Type 0
  IsWithin (Running a ws) = (inside : a.body ≤ length p.around.routines) × Fits a.body inside a.state × AreUnder a.body ws
  IsWithin (Over answer) = Unit {0}
  IsWithin (Left o) = Unit {0}
  IsWithin Lost = Unit {0}

  -- where a body goes on it is within the depths again
  gone_on : (b : ℕ) (inside : b ≤ length p.around.routines) (pc : ℕ) (ws : List Activation) (u : Outcome) → GoesOn (body_of p b) (body b inside).shapes pc u → AreUnder b ws → IsWithin (follow p b ws u)
  gone_on b inside pc ws (Goes t) on under = (inside, on.1, under)
  gone_on b inside pc ws (Ends a) on under = absurd on
  gone_on b inside pc ws (Enters r arguments t) on under = absurd on
  gone_on b inside pc ws (Leaves o) on under = absurd on
  gone_on b inside pc ws Stuck on under = absurd on

  -- a routine that is invoked has room
  invoked_room : (b : ℕ) (inside : b ≤ length p.around.routines) (s : State) → Fits b inside s → (r : ℕ) (arguments : List Datum) (t : State) → step (body_of p b) object s ≡ Enters r arguments t → length t.stack + slice_index ds r ≤ slice_index ds b
  invoked_room b inside s fits r arguments t is =
      let q = body_of p b in
      let i = get_or q.instructions s.pc instr.Load in
      let found = slice_get-get_or q.instructions s.pc instr.Load fits.inside in
      let done : does q object i s.pc s.stack s.slots ≡ Enters r arguments t = rw found at is in
      let it = enters_invoked q object i s.pc r s.stack arguments s.slots t done in
      let outcome : invoke_outcome r s.pc s.stack s.slots (routine_at q r) ≡ Enters r arguments t = rw it.1 at done in
      let left = invoke_leaves r r s.pc s.stack arguments s.slots t (routine_at q r) outcome in
      let shape = (body b inside).shapes s.pc in
      let most = (body b inside).most.greatest s.pc i (inner_depth q ds i shape) found (inr refl) in
      let most : (length shape.kinds - length (arguments_of (routine_at q r))) + slice_index ds r ≤ slice_index ds b = rw it.1 at most in
      let size = of_count shape.kinds s.stack fits.state.kinds in
      let rest : length t.stack ≡ length s.stack - length (arguments_of (routine_at q r)) = ap length left ∙ length-drop (length (arguments_of (routine_at q r))) s.stack in
      omega (arith, most, size, rest)

  turn_within : (a : Activation) (ws : List Activation) → IsWithin (Running a ws) → IsWithin (turn p object a ws)
  turn_within a ws (inside, fits, under) =
      by (step (body_of p a.body) object a.state) refl ws under
      (step_continues (body_of p a.body) (body a.body inside).shapes (body a.body inside).typing object (body_seen p a.body main inside) a.state fits)
    where
      by : (u : Outcome) → step (body_of p a.body) object a.state ≡ u → (ws : List Activation) → AreUnder a.body ws → Continues (body_of p a.body) (body a.body inside).shapes a.state.pc u → IsWithin (follow p a.body ws u)
      by (Goes t) is ws under on = (inside, on.1, under)
      by (Ends answer) is [] under on = tt
      by (Ends answer) is (w ∷ ws) under on = tt
      by (Enters r arguments t) is ws under on =
          let there : IsSome (routine_at p r) = subst IsSome (same_routine p a.body r) on.routine in
          let counted = counted_routine p r there in
          let are = subst (λ o. AreOf (reverse (arguments_of o)) arguments) (same_routine p a.body r ∙ sym (own_of_body p r main)) on.kinds in (
            counted,
            entry_fits (body_of p r) (body r counted).shapes (body r counted).typing object arguments are,
            (
              inside,
              invoked_room a.body inside a.state fits r arguments t is,
              λ o good. subst (λ pc. GoesOn (body_of p a.body) (body a.body inside).shapes pc (resumed (body_of p a.body) t o)) (sym on.here) (on.goes o (subst (λ f. IsResult f o) (sym (same_routine p a.body r)) good)),
              under,
            ),
          )
      by (Leaves o) is [] under on = tt
      by (Leaves o) is (w ∷ ws) (there, room, goes, under) on =
          gone_on w.body there w.state.pc ws (resumed (body_of p w.body) w.state o) (goes o (subst (λ f. IsResult f o) (own_of_body p a.body main) on.1)) under
      by Stuck is ws under on = absurd on

  after_within : (n : ℕ) (x : Whole) → IsWithin x → IsWithin (after p object n x)
  after_within zero x within = within
  after_within (suc n) (Running a ws) within = after_within n (turn p object a ws) (turn_within a ws within)
  after_within (suc n) (Over answer) within = within
  after_within (suc n) (Left o) within = within
  after_within (suc n) Lost within = within

  begin_within : IsWithin (begin p)
  begin_within =
      let inside : 0 ≤ length p.around.routines = omega arith in (
        inside,
        entry_fits p (body 0 inside).shapes (body 0 inside).typing object [] (subst (λ o. AreOf (reverse (arguments_of o)) []) (sym (own_of_body p 0 main)) tt),
        refl,
      )

  places_within : (x : Whole) → IsWithin x → places x ≤ slice_index ds 0
  places_within (Running a ws) (inside, fits, under) = omega (arith, stack_within a.body inside a.state fits, under_within a.body ws under)
  places_within (Over answer) within = omega arith
  places_within (Left o) within = omega arith
  places_within Lost within = omega arith

  pub run_within_depth : (n : ℕ) → places (after p object n (begin p)) ≤ slice_index ds 0
  run_within_depth n = places_within (after p object n (begin p)) (after_within n (begin p) begin_within)

pub runs_within : RunsAreWithinDepth
runs_within p object depth main (ds, deep, is) n = subst (λ d. places (after p object n (begin p)) ≤ d) (sym is) (run_within_depth p object main ds deep n)
