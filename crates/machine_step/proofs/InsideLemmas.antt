-- Instructions that stay inside their body.
use Rattle.std.proofs.Common.{◌≡◌, ℕ, List, refl, subst}
use Rattle.std.specs.Prelude.{IfOk, Result}
use Rattle.std.proofs.lemmas.Result.{IfOk-weaker}
use Rattle.term_core.specs.Datum.{Datum}
use Rattle.mcode.specs.Program.{Program, alone}
use Rattle.mcode.specs.declared.instr.Instr.{Instr}
use Rattle.mcode.specs.declared.instr.Instr.TheVariants as instr
use Rattle.machine_stack.specs.Flow.{IsReady, Does, DoesIn}
use Rattle.machine_stack.specs.declared.flow.Flow.{Flow}
use Rattle.machine_step.specs.Flow.{IsInside, IsOfStack, FindsIn, DoesWith}
use Rattle.machine_step.proofs.AloneLemmas.{invoke_stuck, return_stuck, fail_stuck}

-- where those are gone that look at the object, a constant or a slot, instructions of the stack are left
pub stack_left : (i : Instr) → IsInside i → (i ≡ instr.Load → ⊥) → ((constant : ℕ) → i ≡ instr.Const constant → ⊥) → ((slot : ℕ) → i ≡ instr.Get slot → ⊥) → ((slot : ℕ) → i ≡ instr.Bind slot → ⊥) → IsOfStack i
stack_left instr.Load inside a b c d = a refl
stack_left (instr.Const constant) inside a b c d = b constant refl
stack_left (instr.Get slot) inside a b c d = c slot refl
stack_left (instr.Bind slot) inside a b c d = d slot refl
stack_left (instr.Invoke r target) inside a b c d = inside
stack_left instr.Return inside a b c d = inside
stack_left instr.Fail inside a b c d = inside
stack_left i inside a b c d = tt

-- what finds what it needs in code without routines is one
pub inside_alone : (p : Program) (object : Datum) (i : Instr) (stack held : List Datum) → p.around ≡ alone → IsReady p object i stack held → IsInside i
inside_alone p object (instr.Invoke r target) stack held is ready = ready.3 (invoke_stuck p is object ready.0 ready.1 r target stack)
inside_alone p object instr.Return stack held is ready = ready.3 (return_stuck p is object ready.0 ready.1 stack)
inside_alone p object instr.Fail stack held is ready = ready.3 (fail_stuck p is object ready.0 ready.1 stack)
inside_alone p object i stack held is ready = tt

-- what the instruction that was read needs is there, in the code where it is
pub found_in : {constants : List Datum} {object : Datum} {i j : Instr} {stack held : List Datum} {height places : ℕ} → i ≡ j → (finds : FindsIn constants object i stack held height places) → FindsIn finds.code.constants object j stack held height places
found_in {constants} {object} {i} {j} {stack} {held} {height} {places} is finds =
    subst (λ k. FindsIn finds.code.constants object k stack held height places) is (record { code = finds.code; same = refl; room = finds.room; ready = finds.ready })

-- what it does in any code, it does in code with these constants
pub does_with : {E : Type 0} (r : Result Flow E) (constants : List Datum) (object : Datum) (i : Instr) (stack held after held_after : List Datum) → IfOk r (λ flow. (p : Program) → Does p object i stack held flow after held_after) → IfOk r (λ flow. DoesWith constants object i stack held flow after held_after)
does_with r constants object i stack held after held_after leads = IfOk-weaker r _ _ (λ flow does p same. does p) leads

-- an instruction of the stack does with this object and these slots what it does with any
pub leads_in : {E : Type 0} (r : Result Flow E) (constants : List Datum) (object : Datum) (i : Instr) (stack held after : List Datum) → IfOk r (λ flow. DoesIn constants i stack flow after) → IfOk r (λ flow. DoesWith constants object i stack held flow after held)
leads_in r constants object i stack held after leads = IfOk-weaker r _ _ (λ flow does p same. does p object held same) leads
