use Rattle.std.specs.Prelude.{◌≡◌, ◌+◌, ◌<◌, ◌≤◌, ℕ, Bool, true, false}
use Rattle.std.specs.Fn.{CalledAt}
use denote.Param.Members.{Mut}
use denote.Ref.{Bor}
use Rattle.kit_alloc.specs.declared.failing.Failing.{Failing}
use Rattle.kit_alloc.specs.declared.plan.Plan.{Plan}
use Rattle.kit_alloc.specs.declared.plan.Plan.TheVariants.{Once, From}
use Rattle.kit_alloc.specs.declared.sweeps.Refusals.{Refusals}
use Rattle.kit_alloc.specs.declared.sweeps.Refusals.TheVariants.{Alone, Onward}
use Rattle.kit_alloc.specs.declared.sweeps.SweepOutcome.{SweepOutcome}
use Rattle.kit_alloc.specs.declared.sweeps.SweepOutcome.TheVariants.{Complete, OutOfRuns, Misbehaved}
use Rattle.kit_alloc.specs.Failing.{inner_of, plan_of}

-- the sweep reached a run in which no request was refused
abbrev pub IsComplete : SweepOutcome → Type 0
IsComplete (Complete runs) = Unit {0}
IsComplete OutOfRuns = ⊥
IsComplete (Misbehaved request) = ⊥

-- the plan of the run of this number
abbrev pub plan_by : Refusals → ℕ → Plan
plan_by Alone request = Once request
plan_by Onward request = From request

module _ {F B : Type 0} (g : Mut F (Bor (Failing B) × Unit {0}) Bool) (inner : B) (plan : ℕ → Plan) where
  -- a run of the closure f, over an allocator with the plan of this number, returns r and leaves f'
  pub record Runs (f : F) (request : ℕ) (r : Bool) (f' : F) : Type 0 where
    pub heap : Failing B
    pub inner_is : inner_of heap ≡ inner
    pub plan_is : plan_of heap ≡ plan request
    pub called : CalledAt g f heap r f'

  -- the runs with the plans of 1, 2, .. up to a last one behave well, and leave f'
  pub data RunWell (f : F) : ℕ → F → Type 0 where
    none : RunWell f 0 f
    another : (last : ℕ) (mid f' : F) → RunWell f last mid → Runs mid (last + 1) true f'
        → RunWell f (last + 1) f'

  -- the outcome of a sweep of at most `most` runs
  abbrev pub SweepsTo : F → ℕ → SweepOutcome → Type 0
  SweepsTo f most (Complete runs) = (0 < runs) × (runs ≤ most) × ((f' : F) × RunWell f runs f')
  SweepsTo f most OutOfRuns = (f' : F) × RunWell f most f'
  SweepsTo f most (Misbehaved request) =
      (last : ℕ) × (mid : F) × (f' : F) × (request ≡ last + 1) × (request ≤ most)
      × RunWell f last mid × Runs mid request false f'
