-- Jumps and invocations that go forward.
use Rattle.std.proofs.Common.{◌≡◌, ℕ, ◌+◌, ◌<◌, ◌≤◌, IfSome, length, Option, Some, None, refl, sym, ◌∙◌, subst, arith, inl, inr}
use Rattle.std.proofs.lemmas.Option.{slice_get_within, same_Some}
use Rattle.mcode.specs.Instr.{target_of}
use Rattle.mcode.specs.Program.{Program}
use Rattle.mcode.specs.declared.instr.Instr.{Instr}
use Rattle.budget.specs.Paths.{IsAt, IsForward, IsCallForward}
use Rattle.budget.specs.Pass.{IsStepForward}
use Rattle.budget.proofs.PassLemmas.{before_or_not}

-- a property of all before a place, and at it
pub all_more : (P : ℕ → Type 0) (n : ℕ) → ((a : ℕ) → a < n → P a) → P n → (a : ℕ) → a < n + 1 → P a
all_more P n before here a below = elim (before_or_not a n) [
  | inl less ↦ before a less
  | inr more ↦ let same : n ≡ a = omega (arith, below, more) in subst P same here
]

-- the instruction at a place is the only one there
pub step_is : (p : Program) (a : ℕ) (i : Instr) → IsAt p a i → IfSome (target_of i) (λ b. (a < b) × (b < length p.instructions)) → IsCallForward p i → IsStepForward p a
step_is p a i here jumps call j there =
    let same : i ≡ j = same_Some i j (sym here ∙ there) in
    subst (λ k. IfSome (target_of k) (λ b. (a < b) × (b < length p.instructions)) × IsCallForward p k) same (jumps, call)

-- a body goes forward if all its instructions do
pub body_forward : (p : Program) (n : ℕ) → length p.instructions ≤ n → ((a : ℕ) → a < n → IsStepForward p a) → IsForward p
body_forward p n whole each = record {
  jumps = λ a b i here jumps.
      let step = (each a (omega (arith, whole, slice_get_within p.instructions a i here)) i here).0 in
      let step = rw jumps at step in
      step;
  calls = λ a i here. (each a (omega (arith, whole, slice_get_within p.instructions a i here)) i here).1;
}

pub step_of_body : (p : Program) (a : ℕ) → IsForward p → IsStepForward p a
step_of_body p a forward i here = (by (target_of i) (λ b jumps. forward.jumps a b i here jumps), forward.calls a i here)
  where
    by : (to : Option ℕ) → ((b : ℕ) → to ≡ Some b → (a < b) × (b < length p.instructions)) → IfSome to (λ b. (a < b) × (b < length p.instructions))
    by None ahead = tt
    by (Some b) ahead = ahead b refl
