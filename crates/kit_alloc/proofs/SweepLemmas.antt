-- A call of the closure that a sweep is given, as one of its runs.
use Rattle.std.proofs.Common.{◌≡◌, ℕ, Bool, Bor}
use Rattle.std.proofs.lemmas.Fn.{called_at}
use Rattle.std.specs.Fn.{Called}
use denote.Param.Members.{Mut}
use Rattle.kit_alloc.specs.declared.failing.Failing.{Failing}
use Rattle.kit_alloc.specs.declared.plan.Plan.{Plan}
use Rattle.kit_alloc.specs.Failing.{inner_of, plan_of}
use Rattle.kit_alloc.specs.Sweeps.{Runs}

pub Runs-call : {F B : Type 0} (g : Mut F (Bor (Failing B) × Unit {0}) Bool) {inner : B} {plan : ℕ → Plan} {request : ℕ} {heap : Bor (Failing B)} {f f' : F} {answer r : Bool}
    → Called g f (heap, tt) answer f' → answer ≡ r → inner_of heap.now ≡ inner → plan_of heap.now ≡ plan request → Runs g inner plan f request r f'
Runs-call g {heap = heap} called is inner_is plan_is = record { heap = heap.now; inner_is = inner_is; plan_is = plan_is; called = called_at g called is }
