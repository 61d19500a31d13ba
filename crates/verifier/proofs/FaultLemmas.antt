-- A fault of a body and a typing of it exclude each other.
use Rattle.std.specs.Prelude.{ℕ, zero, suc, ◌≡◌, Option, Some, None, List, slice_get}
use Rattle.std.specs.Option.{option_and_then}
use Rattle.std.proofs.Common.{arith, refl, sym, ap, subst, ◌∙◌, inl, inr}
use Rattle.std.proofs.lemmas.Option.{slice_get_within, get_or_from_slice_get}
use Rattle.mcode.specs.Program.{Program, frame_at}
use Rattle.mcode.specs.declared.instr.Instr.{Instr}
use Rattle.verifier_types.specs.Shape.{Shape}
use Rattle.verifier_types.specs.Effect.{falling_shape}
use Rattle.verifier_types.specs.Fit.{IsFrameFit}
use Rattle.verifier.specs.Typing.{AreTypedBelow, HasShapes, falling_into}
use Rattle.verifier_types.specs.Faults.{IsFaultIn}
use Rattle.verifier.specs.Faults.{IsBodyFault, IsFirstUntyped, IsFirstUnfit}
use Rattle.verifier.specs.Pass.{begun, shape_at}
use Rattle.verifier_types.specs.declared.fault.Fault.{Fault}
use Rattle.verifier_types.proofs.FaultLemmas.{contradicts}
use Rattle.verifier.proofs.PassLemmas.{shape_begun, begins_once}

-- what falls into the next instruction, whether or not this one exists
falls_same : (p : Program) (s t : Shape) (o : Option Instr) → ((i : Instr) → o ≡ Some i → s ≡ t) → option_and_then (λ i. falling_shape p i s) o ≡ option_and_then (λ i. falling_shape p i t) o
falls_same p s t None same = refl
falls_same p s t (Some i) same = ap (falling_shape p i) (same i refl)

-- the states of typed instructions are those that the pass computes
pub same_falling : (p : Program) (ds : List ℕ) (shapes : ℕ → Shape) (n : ℕ) → AreTypedBelow p ds shapes n → falling_into p shapes n ≡ falling_into p (shape_at p) n
same_falling p ds shapes zero typed = refl
same_falling p ds shapes (suc n) typed =
    let before = same_falling p ds shapes n (λ q i below here. typed q i (omega (arith, below)) here) in
    falls_same p (shapes n) (shape_at p n) (slice_get p.instructions n) (λ i here.
    begins_once p (falling_into p shapes n) (frame_at p.frames n) (shapes n) (typed n i (omega arith) here).begins
    ∙ ap (λ o. begun p o (frame_at p.frames n)) before ∙ sym (shape_begun p n))

untyped_excludes : (p : Program) (ds : List ℕ) (told : Fault) (shapes : ℕ → Shape) → IsFirstUntyped p ds told → HasShapes p ds shapes → ⊥
untyped_excludes p ds told shapes first typing =
    let pc = first.pc in
    let inside = slice_get_within p.instructions pc first.instr first.here in
    let here = typing.each pc first.instr inside first.here in
    let falls : falling_into p first.shapes pc ≡ falling_into p shapes pc =
    same_falling p ds first.shapes pc first.before
    ∙ sym (same_falling p ds shapes pc (λ q i below there. typing.each q i (omega (arith, below, inside)) there)) in
    elim first.why [
      | inl h ↦ h.1 (shapes pc) (rw falls here.begins)
      | inr h ↦
          let same : first.shapes pc ≡ shapes pc =
          begins_once p (falling_into p first.shapes pc) (frame_at p.frames pc) (first.shapes pc) h.0
          ∙ ap (λ o. begun p o (frame_at p.frames pc)) falls
          ∙ sym (begins_once p (falling_into p shapes pc) (frame_at p.frames pc) (shapes pc) here.begins) in
          contradicts p ds pc first.instr (shapes pc) told here.typed here.inner (subst (λ s. IsFaultIn p ds pc first.instr s told) same h.1)
    ]

unfit_excludes : (p : Program) (ds : List ℕ) (told : Fault) (shapes : ℕ → Shape) → IsFirstUnfit p told → HasShapes p ds shapes → ⊥
unfit_excludes p ds told shapes first typing =
    let inside = slice_get_within p.frames first.place first.frame first.here in
    let fit = typing.frames first.place first.frame inside in
    first.unfit (subst (IsFrameFit p) (get_or_from_slice_get p.frames first.place first.frame first.frame first.here) fit)

pub faulty_untyped : (p : Program) (ds : List ℕ) (told : Fault) (shapes : ℕ → Shape) → IsBodyFault p ds told → HasShapes p ds shapes → ⊥
faulty_untyped p ds told shapes first typing = elim first [
  | inl h ↦ unfit_excludes p ds told shapes h typing
  | inr rest ↦ elim rest [
    | inl h ↦ absurd (omega (arith, h.none, typing.some))
    | inr h ↦ untyped_excludes p ds told shapes h typing
  ]
]
