use Rattle.std.specs.Prelude.{◌≡◌, ◌≤◌, ◌↔◌, ℕ, Bool, IsTrue}
use Rattle.kit_alloc.specs.declared.plan.Plan.{Plan}
use Rattle.kit_alloc.specs.declared.plan.Plan.TheVariants.{Never, Once, From}

-- the plan refuses the request of this number
abbrev pub Refuses : Plan → ℕ → Type 0
Refuses Never request = ⊥
Refuses (Once refused) request = request ≡ refused
Refuses (From first) request = first ≤ request

-- whether a request is refused is what the plan says of some request, counted from 1
abbrev pub IsAnswer : Plan → Bool → Type 0
IsAnswer plan refused = (request : ℕ) × (1 ≤ request) × (IsTrue refused ↔ Refuses plan request)
