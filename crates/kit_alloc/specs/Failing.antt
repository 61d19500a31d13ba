use Rattle.kit_alloc.specs.declared.failing.Failing.{Failing}
use Rattle.kit_alloc.specs.declared.plan.Plan.{Plan}

-- the allocator that its blocks come from
abbrev pub inner_of : {B : Type 0} → Failing B → B
inner_of heap = heap.inner

-- which requests it refuses
abbrev pub plan_of : {B : Type 0} → Failing B → Plan
plan_of heap = heap.gate.plan
