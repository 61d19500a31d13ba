-- Laws of typed code.
use Rattle.std.specs.Prelude.{ℕ, ◌≡◌}
use Rattle.mcode.specs.Program.{Program}
use Rattle.verifier.specs.Faults.{IsFirstFault}
use Rattle.verifier.specs.Typing.{IsTyped, IsDepth, IsPlain}
use Rattle.verifier_types.specs.Shape.{Shape}
use Rattle.verifier_types.specs.declared.fault.Fault.{Fault}

-- code with a fault is not typed
abbrev pub FaultyCodeIsUntyped : Type 0
FaultyCodeIsUntyped = (p : Program) (b : ℕ) (told : Fault) → IsFirstFault p b told → ¬ IsTyped p

-- code has at most one first fault
abbrev pub FirstFaultIsOne : Type 0
FirstFaultIsOne =
    (p : Program) (b c : ℕ) (told again : Fault) → IsFirstFault p b told → IsFirstFault p c again
    → (b ≡ c) × (told ≡ again)

-- code has at most one greatest depth
abbrev pub DepthIsOne : Type 0
DepthIsOne = (p : Program) (n m : ℕ) → IsDepth p n → IsDepth p m → n ≡ m

-- code without routines is typed if its body is
abbrev pub PlainCodeIsTyped : Type 0
PlainCodeIsTyped = (p : Program) (shapes : ℕ → Shape) → IsPlain p shapes → IsTyped p
