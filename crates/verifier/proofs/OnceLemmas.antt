-- At most one fault of a body is the first, and it has at most one greatest depth.
use Rattle.std.specs.Prelude.{ℕ, ◌≡◌, ◌<◌, ◌≤◌, ◌⊎◌, Some, List, length, slice_get, All, take}
use Rattle.std.proofs.Common.{arith, sym, ap, subst, ◌∙◌, inl, inr}
use Rattle.std.proofs.lemmas.Bool.{cases_lt}
use Rattle.std.proofs.lemmas.Option.{slice_get_within, get_or_from_slice_get, same_Some}
use Rattle.std.proofs.lemmas.List.{length-take, get_or-take}
use Rattle.mcode.specs.Program.{Program, Frame, frame_at}
use Rattle.mcode.specs.declared.instr.Instr.{Instr}
use Rattle.verifier_types.specs.Shape.{Shape}
use Rattle.verifier_types.specs.Effect.{left_shape}
use Rattle.verifier_types.specs.Inner.{inner_depth}
use Rattle.verifier_types.specs.Fit.{IsFrameFit}
use Rattle.verifier.specs.Typing.{AreTypedBelow, IsBodyDepth, falling_into}
use Rattle.verifier_types.specs.Faults.{IsFaultIn}
use Rattle.verifier.specs.Faults.{IsBodyFault, IsFirstUntyped, IsFirstUnfit}
use Rattle.verifier.specs.Pass.{begun}
use Rattle.verifier_types.specs.declared.fault.Fault.{Fault}
use Rattle.verifier_types.specs.declared.fault.Fault.TheVariants as fault
use Rattle.verifier.proofs.PassLemmas.{begins_once}
use Rattle.verifier_types.proofs.FaultLemmas.{contradicts, fault_once}
use Rattle.verifier.proofs.FaultLemmas.{same_falling}

-- ---- states

-- typed instructions have only one state each
pub shapes_once : (p : Program) (ds es : List ℕ) (shapes again : ℕ → Shape) (n m pc : ℕ) (i : Instr) → AreTypedBelow p ds shapes n → AreTypedBelow p es again m → pc < n → pc < m → slice_get p.instructions pc ≡ Some i → shapes pc ≡ again pc
shapes_once p ds es shapes again n m pc i typed typed_again below below_again here =
    let falls : falling_into p shapes pc ≡ falling_into p again pc =
    same_falling p ds shapes pc (λ q j less there. typed q j (omega (arith, less, below)) there)
    ∙ sym (same_falling p es again pc (λ q j less there. typed_again q j (omega (arith, less, below_again)) there)) in
    begins_once p (falling_into p shapes pc) (frame_at p.frames pc) (shapes pc) (typed pc i below here).begins
    ∙ ap (λ o. begun p o (frame_at p.frames pc)) falls
    ∙ sym (begins_once p (falling_into p again pc) (frame_at p.frames pc) (again pc) (typed_again pc i below_again here).begins)

no_less : (p : Program) (ds : List ℕ) (n m : ℕ) → IsBodyDepth p ds n → IsBodyDepth p ds m → n ≤ m
no_less p ds n m a b =
    let pc = a.most.reached.0 in
    let i = a.most.reached.1 in
    let here = a.most.reached.2 in
    let inside = slice_get_within p.instructions pc i here in
    let same = shapes_once p ds ds a.shapes b.shapes (length p.instructions) (length p.instructions) pc i a.typing.each b.typing.each inside inside here in
    let IsAt : Shape → Type 0 = λ s. ((n ≡ length s.kinds) ⊎ (n ≡ length (left_shape p i s).kinds)) ⊎ (n ≡ inner_depth p ds i s) in
    b.most.greatest pc i n here (subst IsAt same a.most.reached.3)

pub body_depth_once : (p : Program) (ds : List ℕ) (n m : ℕ) → IsBodyDepth p ds n → IsBodyDepth p ds m → n ≡ m
body_depth_once p ds n m a b = let up = no_less p ds n m a b in let down = no_less p ds m n b a in omega (arith, up, down)

-- ---- a whole body

all_fit : (p : Program) (f : Frame) (place : ℕ) → slice_get p.frames place ≡ Some f → All (IsFrameFit p) p.frames → IsFrameFit p f
all_fit p f place here fit =
    subst (IsFrameFit p) (get_or_from_slice_get p.frames place f f here) (fit place f (slice_get_within p.frames place f here))

-- there is no earlier frame that is not fit
none_earlier : (p : Program) (told again : Fault) → (a : IsFirstUnfit p told) → (b : IsFirstUnfit p again) → a.place < b.place → ⊥
none_earlier p told again a b less =
    let inside = slice_get_within p.frames a.place a.frame a.here in
    let within = slice_get_within p.frames b.place b.frame b.here in
    let few : a.place < length (take b.place p.frames) = omega (arith, length-take b.place p.frames, less, within) in
    let fit = b.before a.place a.frame few in
    let fit = rw (get_or-take b.place p.frames a.place a.frame less) at fit in
    a.unfit (subst (IsFrameFit p) (get_or_from_slice_get p.frames a.place a.frame a.frame a.here) fit)

unfit_once : (p : Program) (told again : Fault) → IsFirstUnfit p told → IsFirstUnfit p again → told ≡ again
unfit_once p told again a b = elim (cases_lt a.place b.place) [
  | inl less ↦ absurd (none_earlier p told again a b less)
  | inr more ↦ elim (cases_lt b.place a.place) [
    | inl less ↦ absurd (none_earlier p again told b a less)
    | inr least ↦
        let same : a.place ≡ b.place = omega (arith, more, least) in
        let one : a.frame ≡ b.frame = same_Some a.frame b.frame (sym a.here ∙ ap (slice_get p.frames) same ∙ b.here) in
        a.is ∙ ap (λ f. fault.Frame f.pc) one ∙ sym b.is
  ]
]

-- what falls into an instruction after typed instructions
falls_alike : (p : Program) (ds : List ℕ) (shapes again : ℕ → Shape) (pc : ℕ) → AreTypedBelow p ds shapes pc → AreTypedBelow p ds again pc → falling_into p shapes pc ≡ falling_into p again pc
falls_alike p ds shapes again pc typed typed_again = same_falling p ds shapes pc typed ∙ sym (same_falling p ds again pc typed_again)

-- there is no earlier instruction that is not typed
none_before : (p : Program) (ds : List ℕ) (told again : Fault) → (a : IsFirstUntyped p ds told) → (b : IsFirstUntyped p ds again) → a.pc < b.pc → ⊥
none_before p ds told again a b less =
    let pc = a.pc in
    let here = b.before pc a.instr less a.here in
    let falls = falls_alike p ds a.shapes b.shapes pc a.before (λ q j below there. b.before q j (omega (arith, below, less)) there) in
    elim a.why [
      | inl h ↦ h.1 (b.shapes pc) (rw falls here.begins)
      | inr h ↦
          let same : a.shapes pc ≡ b.shapes pc =
          begins_once p (falling_into p a.shapes pc) (frame_at p.frames pc) (a.shapes pc) h.0
          ∙ ap (λ o. begun p o (frame_at p.frames pc)) falls
          ∙ sym (begins_once p (falling_into p b.shapes pc) (frame_at p.frames pc) (b.shapes pc) here.begins) in
          contradicts p ds pc a.instr (b.shapes pc) told here.typed here.inner (subst (λ s. IsFaultIn p ds pc a.instr s told) same h.1)
    ]

-- the same instruction has only one fault
untyped_here : (p : Program) (ds : List ℕ) (told again : Fault) → (a : IsFirstUntyped p ds told) → (b : IsFirstUntyped p ds again) → a.pc ≡ b.pc → told ≡ again
untyped_here p ds told again a b same =
    let falls : falling_into p a.shapes a.pc ≡ falling_into p b.shapes b.pc =
    falls_alike p ds a.shapes b.shapes a.pc a.before (subst (AreTypedBelow p ds b.shapes) (sym same) b.before) ∙ ap (falling_into p b.shapes) same in
    let frames : frame_at p.frames a.pc ≡ frame_at p.frames b.pc = ap (frame_at p.frames) same in
    let instrs : a.instr ≡ b.instr = same_Some a.instr b.instr (sym a.here ∙ ap (slice_get p.instructions) same ∙ b.here) in
    elim a.why [
      | inl h ↦ elim b.why [
        | inl k ↦ h.0 ∙ ap fault.Frame same ∙ sym k.0
        | inr k ↦ absurd (h.1 (b.shapes b.pc) (rw (falls, frames) k.0))
      ]
      | inr h ↦ elim b.why [
        | inl k ↦ absurd (k.1 (a.shapes a.pc) (rw (← falls, ← frames) h.0))
        | inr k ↦
            let shapes : a.shapes a.pc ≡ b.shapes b.pc =
            begins_once p (falling_into p a.shapes a.pc) (frame_at p.frames a.pc) (a.shapes a.pc) h.0
            ∙ ap (λ o. begun p o (frame_at p.frames a.pc)) falls
            ∙ ap (begun p (falling_into p b.shapes b.pc)) frames
            ∙ sym (begins_once p (falling_into p b.shapes b.pc) (frame_at p.frames b.pc) (b.shapes b.pc) k.0) in
            let at_pc = subst (λ n. IsFaultIn p ds n a.instr (a.shapes a.pc) told) same h.1 in
            let at_instr = subst (λ i. IsFaultIn p ds b.pc i (a.shapes a.pc) told) instrs at_pc in
            let at_shape = subst (λ s. IsFaultIn p ds b.pc b.instr s told) shapes at_instr in
            fault_once p ds b.pc b.instr (b.shapes b.pc) told again at_shape k.1
      ]
    ]

untyped_once : (p : Program) (ds : List ℕ) (told again : Fault) → IsFirstUntyped p ds told → IsFirstUntyped p ds again → told ≡ again
untyped_once p ds told again a b = elim (cases_lt a.pc b.pc) [
  | inl less ↦ absurd (none_before p ds told again a b less)
  | inr more ↦ elim (cases_lt b.pc a.pc) [
    | inl less ↦ absurd (none_before p ds again told b a less)
    | inr least ↦ untyped_here p ds told again a b (omega (arith, more, least))
  ]
]

-- there is no frame that is not fit if all are
unfit_alone : (p : Program) (told : Fault) → (a : IsFirstUnfit p told) → All (IsFrameFit p) p.frames → ⊥
unfit_alone p told a fit = a.unfit (all_fit p a.frame a.place a.here fit)

-- there is an instruction that is not typed only if there is an instruction
some_instruction : (p : Program) (ds : List ℕ) (told : Fault) → (a : IsFirstUntyped p ds told) → length p.instructions ≡ 0 → ⊥
some_instruction p ds told a none = let inside = slice_get_within p.instructions a.pc a.instr a.here in absurd (omega (arith, inside, none))

pub body_fault_once : (p : Program) (ds : List ℕ) (told again : Fault) → IsBodyFault p ds told → IsBodyFault p ds again → told ≡ again
body_fault_once p ds told again (inl a) (inl b) = unfit_once p told again a b
body_fault_once p ds told again (inl a) (inr (inl b)) = absurd (unfit_alone p told a b.frames)
body_fault_once p ds told again (inl a) (inr (inr b)) = absurd (unfit_alone p told a b.frames)
body_fault_once p ds told again (inr (inl a)) (inl b) = absurd (unfit_alone p again b a.frames)
body_fault_once p ds told again (inr (inl a)) (inr (inl b)) = a.is ∙ sym b.is
body_fault_once p ds told again (inr (inl a)) (inr (inr b)) = absurd (some_instruction p ds again b a.none)
body_fault_once p ds told again (inr (inr a)) (inl b) = absurd (unfit_alone p again b a.frames)
body_fault_once p ds told again (inr (inr a)) (inr (inl b)) = absurd (some_instruction p ds told a b.none)
body_fault_once p ds told again (inr (inr a)) (inr (inr b)) = untyped_once p ds told again a b
