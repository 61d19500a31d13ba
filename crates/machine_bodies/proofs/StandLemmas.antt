-- Where a body stands that was entered, step by step.
use Rattle.std.specs.Prelude.{IsSome, IfSome}
use Rattle.std.specs.Option.{option_and_then}
use Rattle.std.proofs.Common.{◌≡◌, ◌≢◌, ℕ, suc, ◌+◌, ◌-◌, ◌<◌, ◌≤◌, Bool, true, false, cond, List, ◌∷◌, length, reverse, take, drop, set, replicate, slice_get, Option, Some, None, inl, refl, sym, ap, subst, ◌∙◌, arith}
use Rattle.std.specs.Prelude.{IfOk, Result}
use Rattle.std.proofs.lemmas.Option.{slice_get-get_or}
use Rattle.std.proofs.lemmas.List.{length-take-le}
use Rattle.std.proofs.lemmas.Result.{IfOk-weaker}
use Rattle.std.proofs.Common.{get_or}
use Rattle.term_core.specs.Datum.{Datum}
use Rattle.term_core.specs.Datum.Datum.{nil}
use Rattle.mcode.specs.Instr.{target_of}
use Rattle.mcode.specs.Kind.{holds}
use Rattle.mcode.specs.Machine.{Bindings, State, Outcome, all_hold, invoke_outcome, return_outcome, fail_outcome, does, outcome_at, jump, step}
use Rattle.mcode.specs.Machine.Outcome.{Goes, Ends, Enters, Leaves, Stuck}
use Rattle.mcode.specs.Program.{Program, Routine, frame_at, routine_at, own_routine, body_of}
use Rattle.mcode.specs.Run.{entry, otherwise, resumed}
use Rattle.mcode.specs.declared.instr.Instr.{Instr}
use Rattle.mcode.specs.declared.instr.Instr.TheVariants as instr
use Rattle.verifier_types.specs.Effect.{arguments_of}
use Rattle.verifier.specs.Typing.{HasShapes, IsOwnDepthAt}
use Rattle.machine_stack.specs.Cells.{joined, MayJoin}
use Rattle.machine_stack.specs.Flow.{IsReady, Does, Comes}
use Rattle.machine_stack.specs.declared.flow.Flow.{Flow}
use Rattle.machine_stack.specs.declared.flow.Flow.TheVariants as flow
use Rattle.machine_stack.specs.Slots.{AreHeld}
use Rattle.machine_stack.specs.Stack.{stack_at}
use Rattle.machine_stack.proofs.CellLemmas.{joined_length}
use Rattle.machine_stack.proofs.StackLemmas.{stack_height, stack_push}
use Rattle.machine_step.specs.Fits.{AreOf, IsFit, IsSeen, IsResult, GoesOn, Waits, Continues}
use Rattle.machine_step.specs.Flow.{HasRoom, CanStep, state_at}
use Rattle.machine_step.proofs.AskLemmas.{asks_cell}
use Rattle.machine_step.proofs.ComeLemmas.{room_here}
use Rattle.machine_step.proofs.JumpLemmas.{jump_framed, jump_lands}
use Rattle.machine_step.proofs.KindLemmas.{of_count}
use Rattle.machine_step.proofs.SlotLemmas.{held_unbound}
use Rattle.machine_step.proofs.StepLemmas.{entry_fits, step_continues}
use Rattle.machine_bodies.specs.Stands.{HasDepth, Stands, IsNew, IsSettled, GoesTo, IsCome, IsWaiting, IsBodyOf, IsInvoked, IsLeft, state_of}
use Rattle.machine_bodies.specs.declared.activation.Activation.{Activation}
use Rattle.mcode.proofs.BodyLemmas.{constants_of_body, same_routine, own_of_body, counted_routine}
use Rattle.machine_bodies.proofs.SeenLemmas.{body_seen}
use Rattle.machine_bodies.specs.declared.came.Came.{Came}

-- as many places of the same body
abbrev kept_depth : {p q : Program} {n m : ℕ} → q ≡ p → m ≡ n → HasDepth p n → HasDepth q m
kept_depth {p} {q} {n} {m} body places typed = record {
  depths = typed.depths;
  shapes = typed.shapes;
  typing = subst (λ r. HasShapes r typed.depths typed.shapes) (sym body) typed.typing;
  seen = subst IsSeen (sym body) typed.seen;
  deepest = λ pc i depth found at.
      let found : slice_get p.instructions pc ≡ Some i = subst (λ (r : Program). slice_get r.instructions pc ≡ Some i) body found in
      let at : IsOwnDepthAt p typed.shapes pc i depth = subst (λ r. IsOwnDepthAt r typed.shapes pc i depth) body at in
      omega (arith, places, typed.deepest pc i depth found at);
  few = omega (arith, places, typed.few);
}

-- a body has the constants of its code
pub constants_here : {A : Type 0} (act : Activation A) (p q : Program) → IsBodyOf act p → q ≡ p → act.body.constants ≡ q.constants
constants_here act p q of is =
    ap (λ (r : Program). r.constants) of.1 ∙ constants_of_body p of.0 ∙ sym (ap (λ (r : Program). r.constants) is)

module _ {A : Type 0} {act : Activation A} (stands : Stands act) (object : Datum) where
  abbrev s : State
  s = state_of act stands.slots

  -- what the step comes to continues, so that it isn't stuck
  pub here : Continues act.body stands.typed.shapes act.pc (step act.body object s)
  here = step_continues act.body stands.typed.shapes stands.typed.typing object stands.typed.seen s stands.fits

  pub unstuck : step act.body object s ≢ Stuck
  unstuck stuck = subst (Continues act.body stands.typed.shapes act.pc) stuck here

  pub can_step : CanStep act.body object act.pc (joined act.cells (stack_at act.stack.terms act.height)) act.slots.terms
  can_step = (stands.slots, stands.are, unstuck)

  -- it is at an instruction, which has room
  pub has_room : (i : Instr) → slice_get act.body.instructions act.pc ≡ Some i → HasRoom act.body i (act.height - act.cells) (length act.stack.terms)
  has_room i found =
      let room = room_here act.body stands.typed.shapes stands.typed.typing (length act.stack.terms) stands.typed.deepest s stands.fits i found in
      let count = stack_height act.stack.terms act.height stands.within in
      rw (joined_length act.cells (stack_at act.stack.terms act.height) (omega (arith, stands.deep, count)), count) at room

  -- if the outcome is a state of the same body, and places hold it, the activation is in that state
  module _ {new : Activation A} (body : new.body ≡ act.body) (places : length new.stack.terms ≡ length act.stack.terms) where
    pub stands_there : (slots : Bindings) → AreHeld slots new.slots.terms → new.height ≤ length new.stack.terms → new.cells ≤ new.height - 1 → MayJoin new.cells (stack_at new.stack.terms new.height)
        → step act.body object s ≡ Goes (state_of new slots) → GoesTo new (step act.body object s)
    stands_there slots are within deep may is =
        let on : Continues act.body stands.typed.shapes act.pc (Goes (state_of new slots)) = subst (Continues act.body stands.typed.shapes act.pc) is here in (
          record {
            slots = slots;
            are = are;
            within = within;
            deep = deep;
            may = may;
            typed = kept_depth body places stands.typed;
            fits = subst (λ p. IsFit p stands.typed.shapes (state_of new slots)) (sym body) on.1;
          },
          is,
        )

  -- what an instruction does with the places leads to what the machine does
  module _ (i : Instr) (read : slice_get act.body.instructions act.pc ≡ Some i) (none : act.cells ≡ 0) where
    -- the stack where no cell was asked for
    abbrev stack : List Datum
    stack = stack_at act.stack.terms act.height

    step_is : step act.body object s ≡ does act.body object i act.pc stack stands.slots
    step_is = rw none (ap (outcome_at act.body object (state_at act.pc stack stands.slots)) read)

    unstuck_does : does act.body object i act.pc stack stands.slots ≢ Stuck
    unstuck_does stuck = unstuck (step_is ∙ stuck)

    pub is_ready : IsReady act.body object i stack act.slots.terms
    is_ready = (act.pc, stands.slots, stands.are, unstuck_does)

    module _ (to : Flow) (after held_after : List Datum) (leads : Does act.body object i stack act.slots.terms to after held_after) where
      comes : Comes act.body act.pc to after held_after (step act.body object s)
      comes =
          let found = leads act.pc stands.slots stands.are unstuck_does in
          (found.0, found.1, found.2 ∙ sym step_is)

    pub came_answer : (place : ℕ) (after held_after : List Datum) → Does act.body object i stack act.slots.terms (flow.Answer place) after held_after → step act.body object s ≡ Ends (slice_get after place)
    came_answer place after held_after leads = sym (comes (flow.Answer place) after held_after leads).2

    pub came_no_answer : (after held_after : List Datum) → Does act.body object i stack act.slots.terms flow.NoAnswer after held_after → step act.body object s ≡ Ends None
    came_no_answer after held_after leads = sym (comes flow.NoAnswer after held_after leads).2

    pub jumps_framed : (target height : ℕ) (after held_after : List Datum) → Does act.body object i stack act.slots.terms (flow.Jump target height) after held_after → IsSome (frame_at act.body.frames target)
    jumps_framed target height after held_after leads =
        let found = comes (flow.Jump target height) after held_after leads in
        jump_framed act.body target (stack_at after height) found.0 (λ stuck. unstuck (sym found.2 ∙ stuck))

    module _ {new : Activation A} (body : new.body ≡ act.body) (places : length new.stack.terms ≡ length act.stack.terms) (fresh : new.cells ≡ 0) where
      pub came_next : new.pc ≡ act.pc + 1 → new.height ≤ length new.stack.terms → Does act.body object i stack act.slots.terms (flow.Next new.height) new.stack.terms new.slots.terms → GoesTo new (step act.body object s)
      came_next pc within leads =
          let found = comes (flow.Next new.height) new.stack.terms new.slots.terms leads in
          let one_more : suc act.pc ≡ new.pc = omega (arith, pc) in
          let is : step act.body object s ≡ Goes (state_at new.pc (stack_at new.stack.terms new.height) found.0) =
          sym found.2 ∙ ap (λ n. Goes (state_at n (stack_at new.stack.terms new.height) found.0)) one_more in
          stands_there body places found.0 found.1 within (omega (arith, fresh)) (rw fresh tt) (rw fresh is)

      pub came_jump : (height : ℕ) → height ≤ length new.stack.terms → IfSome (frame_at act.body.frames new.pc) (λ f. new.height ≡ f.depth) → Does act.body object i stack act.slots.terms (flow.Jump new.pc height) new.stack.terms new.slots.terms → GoesTo new (step act.body object s)
      came_jump height within depth leads =
          let found = comes (flow.Jump new.pc height) new.stack.terms new.slots.terms leads in
          let lands = jump_lands act.body new.pc new.stack.terms height new.height found.0 within depth (λ stuck. unstuck (sym found.2 ∙ stuck)) in
          stands_there body places found.0 found.1 (omega (arith, lands.0, within)) (omega (arith, fresh)) (rw fresh tt) (rw fresh (sym found.2 ∙ lands.1))

  -- the activation if one more cell becomes pending
  pub came_asked : {new : Activation A} → new.body ≡ act.body → new.stack.terms ≡ act.stack.terms → new.slots.terms ≡ act.slots.terms → new.pc ≡ act.pc + 1 → new.height ≡ act.height → new.cells ≡ act.cells + 1
      → (target : ℕ) → slice_get act.body.instructions act.pc ≡ Some (instr.MakeCons target) → MayJoin (act.cells + 1) (stack_at act.stack.terms act.height) → GoesTo new (step act.body object s)
  came_asked {new} body terms held pc height cells target found may =
      let room = has_room (instr.MakeCons target) found in
      let count = stack_height act.stack.terms act.height stands.within in
      let asks = asks_cell act.body object act.pc target found act.cells (stack_at act.stack.terms act.height) act.slots.terms (omega (arith, room.operands, count)) may can_step in
      stands_there body (ap length terms) stands.slots (rw held stands.are) (omega (arith, stands.within, height, ap length terms)) (omega (arith, room.operands, height, cells)) (rw (terms, height, cells) may) (rw (terms, height, cells, pc) (asks.leads stands.slots))

  -- it is at its instruction
  pub at_instr : act.pc < length act.body.instructions
  at_instr = stands.fits.inside

-- the pending cells are made, and the activation is in the same state
pub settled_stands : {A : Type 0} {old new : Activation A} → new.body ≡ old.body → IsSettled old new → (stands : Stands old) → (after : Stands new) × (state_of new after.slots ≡ state_of old stands.slots)
settled_stands {A} {old} {new} body settled stands = (
  record {
    slots = stands.slots;
    are = rw settled.slots stands.are;
    within = omega (arith, settled.height, settled.places, stands.within);
    deep = omega (arith, settled.cells);
    may = rw settled.cells tt;
    typed = kept_depth body settled.places stands.typed;
    fits = subst (λ p. IsFit p stands.typed.shapes (state_of new stands.slots)) (sym body) (subst (IsFit old.body stands.typed.shapes) (sym same) stands.fits);
  },
  same,
)
  where
    same : state_of new stands.slots ≡ state_of old stands.slots
    same = rw (settled.pc, settled.cells) (ap (λ stack. state_at old.pc stack stands.slots) settled.stack)

-- and what comes then comes from where it stood before
pub settled_come : {A E : Type 0} {old mid : Activation A} (new : Activation A) (object : Datum) → mid.body ≡ old.body → IsSettled old mid → (r : Result Came E) → IfOk r (λ came. (stands : Stands mid) → IsCome new came (step mid.body object (state_of mid stands.slots)))
    → IfOk r (λ came. (stands : Stands old) → IsCome new came (step old.body object (state_of old stands.slots)))
settled_come {A} {E} {old} {mid} new object body settled r comes = IfOk-weaker r _ _ (λ came come. from came come) comes
  where
    from : (came : Came) → ((stands : Stands mid) → IsCome new came (step mid.body object (state_of mid stands.slots))) → (stands : Stands old) → IsCome new came (step old.body object (state_of old stands.slots))
    from came come stands =
        let after = settled_stands body settled stands in
        subst (λ p. IsCome new came (step p object (state_of old stands.slots))) body (subst (λ s. IsCome new came (step mid.body object s)) after.1 (come after.0))

-- ---- routines

module _ {A : Type 0} {act : Activation A} (stands : Stands act) (object : Datum) (r target : ℕ) (found : slice_get act.body.instructions act.pc ≡ Some (instr.Invoke r target)) where
  abbrev meant : List Datum
  meant = joined act.cells (stack_at act.stack.terms act.height)

  -- the arguments, from the top, and the state that waits
  abbrev passed : List Datum
  passed = take (length (arguments_of (routine_at act.body r))) meant

  abbrev waiting : State
  waiting = record { pc = act.pc; stack = drop (length (arguments_of (routine_at act.body r))) meant; slots = stands.slots }

  -- the routine is entered
  pub enters : (step act.body object (state_of act stands.slots) ≡ Enters r passed waiting) × Waits act.body stands.typed.shapes act.pc r passed waiting
  enters = by (routine_at act.body r) refl
    where
      on : Continues act.body stands.typed.shapes act.pc (invoke_outcome r act.pc meant stands.slots (routine_at act.body r))
      on = subst (λ o. Continues act.body stands.typed.shapes act.pc (outcome_at act.body object (state_of act stands.slots) o)) found (here stands object)

      is : step act.body object (state_of act stands.slots) ≡ invoke_outcome r act.pc meant stands.slots (routine_at act.body r)
      is = ap (outcome_at act.body object (state_of act stands.slots)) found

      Done : Option Routine → Outcome → Type 0
      Done t o =
          let n = length (arguments_of t) in
          let s : State = record { pc = act.pc; stack = drop n meant; slots = stands.slots } in
          (o ≡ Enters r (take n meant) s) × Waits act.body stands.typed.shapes act.pc r (take n meant) s

      by : (t : Option Routine) → routine_at act.body r ≡ t → (step act.body object (state_of act stands.slots) ≡ Enters r passed waiting) × Waits act.body stands.typed.shapes act.pc r passed waiting
      by None none = absurd (subst (λ t. Continues act.body stands.typed.shapes act.pc (invoke_outcome r act.pc meant stands.slots t)) none on)
      by (Some t) some =
          let on : Continues act.body stands.typed.shapes act.pc (invoke_outcome r act.pc meant stands.slots (Some t)) = subst (λ t. Continues act.body stands.typed.shapes act.pc (invoke_outcome r act.pc meant stands.slots t)) some on in
          let done : Done (Some t) (invoke_outcome r act.pc meant stands.slots (Some t)) = tested (all_hold (reverse t.arguments) (take (length t.arguments) meant)) on in
          let done : Done (routine_at act.body r) (invoke_outcome r act.pc meant stands.slots (routine_at act.body r)) = subst (λ t. Done t (invoke_outcome r act.pc meant stands.slots t)) (sym some) done in
          (is ∙ done.0, done.1)
        where
          s : State
          s = record { pc = act.pc; stack = drop (length t.arguments) meant; slots = stands.slots }

          tested : (b : Bool) → Continues act.body stands.typed.shapes act.pc (cond b (Enters r (take (length t.arguments) meant) s) Stuck) → Done (Some t) (cond b (Enters r (take (length t.arguments) meant) s) Stuck)
          tested true on = (refl, on)
          tested false on = absurd on

-- a routine that was entered is at its beginning
module _ {A : Type 0} {p : Program} {new : Activation A} (fresh : IsNew p new) (seen : IsSeen p) (arguments : List Datum) (are : AreOf (reverse (arguments_of (own_routine p))) arguments) where
  typed : HasDepth new.body (length new.stack.terms)
  typed = fresh.typed seen

  begins : IsFit new.body typed.shapes (entry new.body arguments)
  begins = entry_fits new.body typed.shapes typed.typing nil arguments (rw fresh.body are)

  -- there is room for its arguments
  pub arguments_fit : length arguments ≤ length new.stack.terms
  arguments_fit =
      let found = slice_get-get_or new.body.instructions 0 instr.Load begins.inside in
      let deep = typed.deepest 0 (get_or new.body.instructions 0 instr.Load) (length (typed.shapes 0).kinds) found (inl refl) in
      omega (arith, deep, of_count (typed.shapes 0).kinds arguments begins.state.kinds)

  pub entered_stands : {entered : Activation A} → entered.body ≡ new.body → length entered.stack.terms ≡ length new.stack.terms → entered.slots.terms ≡ new.slots.terms → entered.pc ≡ 0 → entered.cells ≡ 0
      → stack_at entered.stack.terms entered.height ≡ arguments → entered.height ≤ length entered.stack.terms
      → (after : Stands entered) × (state_of entered after.slots ≡ entry entered.body arguments)
  entered_stands {entered} body places slots pc cells stack within = (
    record {
      slots = replicate p.slots None;
      are = rw slots (held_unbound p.slots new.slots.terms fresh.slots);
      within = within;
      deep = omega (arith, cells);
      may = rw cells tt;
      typed = kept_depth body places typed;
      fits = subst (λ q. IsFit q typed.shapes (state_of entered (replicate p.slots None))) (sym body) (subst (IsFit new.body typed.shapes) (sym same) begins);
    },
    same ∙ ap (λ q. entry q arguments) (sym body),
  )
    where
      same : state_of entered (replicate p.slots None) ≡ entry new.body arguments
      same =
          rw (pc, cells, stack) (ap (λ (q : Program). state_at 0 arguments (replicate q.slots None)) (sym fresh.body))

-- the body of an activation invokes a routine of its code
module _ {A : Type 0} {act : Activation A} (p : Program) (main : p.around.number ≡ 0) (of : IsBodyOf act p) (r target : ℕ) (found : slice_get act.body.instructions act.pc ≡ Some (instr.Invoke r target)) (stands : Stands act) where
  same_there : routine_at act.body r ≡ routine_at p r
  same_there = ap (λ q. routine_at q r) of.1 ∙ same_routine p of.0 r

  waits_for : Waits act.body stands.typed.shapes act.pc r (passed stands nil r target found) (waiting stands nil r target found)
  waits_for = (enters stands nil r target found).1

  -- which is one that is there
  pub routine_some : 0 < r
  routine_some = omega (arith, waits_for.behind)

  pub routine_counted : r ≤ length p.around.routines
  routine_counted = counted_routine p r (subst IsSome same_there waits_for.routine)

  -- its arguments are on the stack
  pub arguments_there : length (arguments_of (routine_at p r)) ≤ act.height - act.cells
  arguments_there =
      let room = has_room stands nil (instr.Invoke r target) found in
      omega (arith, room.operands, ap (λ t. length (arguments_of t)) same_there)

  module _ {fresh : Activation A} (made : IsNew (body_of p r) fresh) where
    passed_are : AreOf (reverse (arguments_of (own_routine (body_of p r)))) (passed stands nil r target found)
    passed_are = subst (λ t. AreOf (reverse (arguments_of t)) (passed stands nil r target found)) (same_there ∙ sym (own_of_body p r main)) waits_for.kinds

    seen_there : IsSeen (body_of p r)
    seen_there = body_seen p r main routine_counted

    -- and fit its own
    pub arguments_room : length (arguments_of (routine_at p r)) ≤ length fresh.stack.terms
    arguments_room =
        let fit = arguments_fit made seen_there (passed stands nil r target found) passed_are in
        let all = length-take-le (length (arguments_of (routine_at act.body r))) (joined act.cells (stack_at act.stack.terms act.height)) deep in
        omega (arith, fit, all, ap (λ t. length (arguments_of t)) same_there)
      where
        deep : length (arguments_of (routine_at act.body r)) ≤ length (joined act.cells (stack_at act.stack.terms act.height))
        deep =
            let count = stack_height act.stack.terms act.height stands.within in
            omega (arith, arguments_there, ap (λ t. length (arguments_of t)) same_there, joined_length act.cells (stack_at act.stack.terms act.height) (omega (arith, stands.deep, count)), count)

    -- they are handed over, and the body waits
    pub invoked_here : {mid new entered : Activation A} (count : ℕ) → count ≡ length (arguments_of (routine_at p r)) → act.pc < 65535 → IsSettled act mid
        → new.body ≡ act.body → new.pc ≡ mid.pc → new.cells ≡ 0 → new.slots.terms ≡ mid.slots.terms → new.height ≡ mid.height - count → length new.stack.terms ≡ length mid.stack.terms
        → stack_at new.stack.terms (mid.height - count) ≡ drop count (stack_at mid.stack.terms mid.height)
        → entered.body ≡ fresh.body → length entered.stack.terms ≡ length fresh.stack.terms → entered.slots.terms ≡ fresh.slots.terms → entered.pc ≡ 0 → entered.cells ≡ 0 → entered.height ≡ count
        → stack_at entered.stack.terms count ≡ take count (stack_at mid.stack.terms mid.height)
        → (object : Datum) → IsInvoked r new entered (step act.body object (state_of act stands.slots))
    invoked_here {mid} {new} {entered} count counts few settled body pc cells slots height places left entered_body entered_places entered_slots entered_pc entered_cells entered_height handed object =
        let n : length (arguments_of (routine_at act.body r)) ≡ count = ap (λ t. length (arguments_of t)) same_there ∙ sym counts in
        let comes = enters stands object r target found in
        let rest : drop (length (arguments_of (routine_at act.body r))) (joined act.cells (stack_at act.stack.terms act.height)) ≡ stack_at new.stack.terms new.height =
        rw n (ap (drop count) (sym settled.stack) ∙ sym left ∙ ap (stack_at new.stack.terms) (sym height)) in
        let given : stack_at entered.stack.terms entered.height ≡ passed stands nil r target found =
        ap (stack_at entered.stack.terms) entered_height ∙ handed ∙ ap (take count) settled.stack ∙ ap (λ m. take m (joined act.cells (stack_at act.stack.terms act.height))) (sym n) in
        let begins = entered_stands made seen_there (passed stands nil r target found) passed_are entered_body entered_places entered_slots entered_pc entered_cells given (omega (arith, entered_height, counts, entered_places, arguments_room)) in
        record {
          arguments = passed stands object r target found;
          state = waiting stands object r target found;
          is = comes.0;
          waiting = record {
            slots = stands.slots;
            here = rw (pc, settled.pc) (ap (λ ds. state_at act.pc ds stands.slots) rest);
            are = rw (slots, settled.slots) stands.are;
            within = omega (arith, height, places, settled.places, settled.height, stands.within);
            none = cells;
            inside = rw (body, pc, settled.pc) (at_instr stands object);
            few = rw (pc, settled.pc) few;
            typed = kept_depth body (places ∙ settled.places) stands.typed;
            goes = λ o good. goes_kept o good;
          };
          stands = begins.0;
          begins = begins.1;
        }
      where
        goes_kept : (o : Option Datum) → IsResult (routine_at new.body r) o → GoesOn new.body stands.typed.shapes new.pc (resumed new.body (waiting stands object r target found) o)
        goes_kept o good =
            let good : IsResult (routine_at act.body r) o = subst (λ q. IsResult (routine_at q r) o) body good in
            let on = (enters stands object r target found).1.goes o good in
            let on : GoesOn act.body stands.typed.shapes new.pc (resumed act.body (waiting stands object r target found) o) = subst (λ m. GoesOn act.body stands.typed.shapes m (resumed act.body (waiting stands object r target found) o)) (sym (pc ∙ settled.pc)) on in
            subst (λ q. GoesOn q stands.typed.shapes new.pc (resumed q (waiting stands object r target found) o)) (sym body) on

-- ---- ends of routines

-- a routine that fails
pub fails_here : {A : Type 0} {act : Activation A} (stands : Stands act) (object : Datum) → slice_get act.body.instructions act.pc ≡ Some instr.Fail → IsLeft act.body None (step act.body object (state_of act stands.slots))
fails_here {A} {act} stands object found =
    let on = subst (λ o. Continues act.body stands.typed.shapes act.pc (outcome_at act.body object (state_of act stands.slots) o)) found (here stands object) in
    (ap (outcome_at act.body object (state_of act stands.slots)) found ∙ by (own_routine act.body) on, tt)
  where
    by : (t : Option Routine) → Continues act.body stands.typed.shapes act.pc (fail_outcome t) → fail_outcome t ≡ Leaves None
    by None on = absurd on
    by (Some t) on = refl

-- a routine that returns the top
pub returns_here : {A : Type 0} {act : Activation A} (stands : Stands act) (object : Datum) (d : Datum) (stack : List Datum) → slice_get act.body.instructions act.pc ≡ Some instr.Return → joined act.cells (stack_at act.stack.terms act.height) ≡ d ∷ stack → IsLeft act.body (Some d) (step act.body object (state_of act stands.slots))
returns_here {A} {act} stands object d rest found top =
    let on = subst (λ o. Continues act.body stands.typed.shapes act.pc (outcome_at act.body object (state_of act stands.slots) o)) found (here stands object) in
    let on : Continues act.body stands.typed.shapes act.pc (return_outcome d (own_routine act.body)) = subst (λ ds. Continues act.body stands.typed.shapes act.pc (does act.body object instr.Return act.pc ds stands.slots)) top on in
    let left = by (own_routine act.body) on in
    let is : step act.body object (state_of act stands.slots) ≡ return_outcome d (own_routine act.body) =
    ap (outcome_at act.body object (state_of act stands.slots)) found ∙ ap (λ ds. does act.body object instr.Return act.pc ds stands.slots) top in
    (is ∙ left, (subst (Continues act.body stands.typed.shapes act.pc) left on).1)
  where
    by : (t : Option Routine) → Continues act.body stands.typed.shapes act.pc (return_outcome d t) → return_outcome d t ≡ Leaves (Some d)
    by None on = absurd on
    by (Some t) on = tested (holds t.result d) on
      where
        tested : (b : Bool) → Continues act.body stands.typed.shapes act.pc (cond b (Leaves (Some d)) Stuck) → cond b (Leaves (Some d)) Stuck ≡ Leaves (Some d)
        tested true on = refl
        tested false on = absurd on

-- ---- bodies that waited

module _ {A : Type 0} {act : Activation A} {t : Option Routine} {s : State} (waits : IsWaiting t act s) where
  -- there is room for what the routine returns
  pub result_room : (d : Datum) → IsResult t (Some d) → act.height < length act.stack.terms
  result_room d good =
      let on = waits.goes (Some d) good in
      let on = rw waits.here at on in
      let shape = waits.typed.shapes (suc act.pc) in
      let count = of_count shape.kinds (d ∷ stack_at act.stack.terms act.height) on.1.state.kinds in
      let found = slice_get-get_or act.body.instructions (suc act.pc) instr.Load on.1.inside in
      let deep = waits.typed.deepest (suc act.pc) (get_or act.body.instructions (suc act.pc) instr.Load) (length shape.kinds) found (inl refl) in
      omega (arith, deep, count, stack_height act.stack.terms act.height waits.within)

  -- where it goes on to, it stands
  module _ {new : Activation A} (body : new.body ≡ act.body) (places : length new.stack.terms ≡ length act.stack.terms) (held : new.slots.terms ≡ act.slots.terms) (fresh : new.cells ≡ 0) (within : new.height ≤ length new.stack.terms) where
    goes_there : (o : Option Datum) → IsResult t o → resumed act.body s o ≡ Goes (state_at new.pc (stack_at new.stack.terms new.height) waits.slots) → GoesTo new (resumed act.body s o)
    goes_there o good is =
        let on : GoesOn act.body waits.typed.shapes act.pc (Goes (state_at new.pc (stack_at new.stack.terms new.height) waits.slots)) = subst (GoesOn act.body waits.typed.shapes act.pc) is (waits.goes o good) in
        let same : state_at new.pc (stack_at new.stack.terms new.height) waits.slots ≡ state_of new waits.slots = rw fresh refl in (
          record {
            slots = waits.slots;
            are = rw held waits.are;
            within = within;
            deep = omega (arith, fresh);
            may = rw fresh tt;
            typed = kept_depth body places waits.typed;
            fits = subst (λ p. IsFit p waits.typed.shapes (state_of new waits.slots)) (sym body) (subst (IsFit act.body waits.typed.shapes) same on.1);
          },
          is ∙ ap Goes same,
        )

    pub resumed_with : (d : Datum) → IsResult t (Some d) → new.pc ≡ act.pc + 1 → new.height ≡ act.height + 1 → new.stack.terms ≡ set act.stack.terms act.height d → GoesTo new (resumed act.body s (Some d))
    resumed_with d good pc height terms =
        goes_there (Some d) good (rw (waits.here, pc, height, terms, stack_push act.stack.terms act.height d (result_room d good)) (ap (λ n. Goes (state_at n (d ∷ stack_at act.stack.terms act.height) waits.slots)) one_more))
      where
        one_more : suc act.pc ≡ act.pc + 1
        one_more = omega arith

  -- the target of its instruction, where the routine has failed
  jumps : (o : Option ℕ) → GoesOn act.body waits.typed.shapes act.pc (otherwise act.body s o) → IfSome o (λ target. jump act.body target s.stack s.slots ≢ Stuck) × IsSome o
  jumps None on = absurd on
  jumps (Some target) on = ((λ stuck. subst (GoesOn act.body waits.typed.shapes act.pc) stuck on), refl)

  module _ (i : Instr) (found : slice_get act.body.instructions act.pc ≡ Some i) where
    target_is : option_and_then target_of (slice_get act.body.instructions s.pc) ≡ target_of i
    target_is = rw waits.here (ap (option_and_then target_of) found)

    pub targets : IsSome (target_of i)
    targets = (jumps (target_of i) (subst (λ o. GoesOn act.body waits.typed.shapes act.pc (otherwise act.body s o)) target_is (waits.goes None tt))).1

    module _ (target : ℕ) (to : target_of i ≡ Some target) where
      jumps_there : jump act.body target s.stack s.slots ≢ Stuck
      jumps_there =
          let on = subst (λ o. GoesOn act.body waits.typed.shapes act.pc (otherwise act.body s o)) (target_is ∙ to) (waits.goes None tt) in
          (jumps (Some target) on).0

      unstuck_there : jump act.body target (stack_at act.stack.terms act.height) waits.slots ≢ Stuck
      unstuck_there =
          let on = jumps_there in
          rw waits.here at on

      pub target_framed : IsSome (frame_at act.body.frames target)
      target_framed = jump_framed act.body target (stack_at act.stack.terms act.height) waits.slots unstuck_there

      pub resumed_at : {new : Activation A} → new.body ≡ act.body → new.stack.terms ≡ act.stack.terms → new.slots.terms ≡ act.slots.terms → new.cells ≡ 0 → new.pc ≡ target → IfSome (frame_at act.body.frames target) (λ f. new.height ≡ f.depth)
          → GoesTo new (resumed act.body s None)
      resumed_at {new} body terms held fresh pc depth =
          let lands = jump_lands act.body target act.stack.terms act.height new.height waits.slots waits.within depth unstuck_there in
          let is : resumed act.body s None ≡ jump act.body target s.stack s.slots = ap (otherwise act.body s) (target_is ∙ to) in
          let is = rw waits.here at is in
          goes_there body (ap length terms) held fresh (omega (arith, lands.0, waits.within, ap length terms)) None tt
          (rw waits.here (is ∙ rw (pc, terms) lands.1))
