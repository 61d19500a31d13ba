-- An instruction is not both typed and at fault in a state, and has at most one fault.
use Rattle.std.specs.Prelude.{ℕ, zero, suc, ◌≡◌, ◌<◌, ◌≤◌, IsTrue, List, length}
use Rattle.std.proofs.Common.{arith, refl, sym, ap, subst, ◌∙◌, inl, inr}
use Rattle.std.proofs.lemmas.Bool.{cases_lt}
use Rattle.std.proofs.lemmas.Option.{same_Some}
use Rattle.mcode.specs.Instr.{goes_on}
use Rattle.mcode.specs.Program.{Program}
use Rattle.mcode.specs.declared.instr.Instr.{Instr}
use Rattle.verifier_types.specs.Shape.{Shape}
use Rattle.verifier_types.specs.Effect.{needs, IsConstantFit, kinds_fit, passes, slot_fits, left_shape}
use Rattle.verifier_types.specs.Inner.{inner_depth}
use Rattle.verifier_types.specs.Fit.{most_places, IsTargetFit, IsPlaced, IsJumpFit, IsTypedAt}
use Rattle.verifier_types.specs.Faults.{JumpsTo, IsNamingFit, AreOperandsFit, AreKindsFit, IsSlotFit, IsDepthFit, IsFaultIn}
use Rattle.verifier_types.specs.declared.fault.Fault.{Fault}
use Rattle.verifier_types.specs.declared.fault.Fault.TheVariants as fault

-- no instruction is both typed and at fault if its routine is not too deep
pub contradicts : (p : Program) (ds : List ℕ) (pc : ℕ) (i : Instr) (s : Shape) (told : Fault) → IsTypedAt p pc i s → inner_depth p ds i s ≤ most_places → IsFaultIn p ds pc i s told → ⊥
contradicts p ds pc i s fault.Memory typed inner why = why
contradicts p ds pc i s fault.Budget typed inner why = why
contradicts p ds pc i s (fault.JumpOutside at) typed inner why =
    let target = typed.target in
    let target = rw why.1.1 at target in
    absurd (omega (arith, target.inside, why.1.2))
contradicts p ds pc i s (fault.JumpBack at) typed inner why =
    let target = typed.target in
    let target = rw why.1.1 at target in
    absurd (omega (arith, target.ahead, why.1.3))
contradicts p ds pc i s (fault.Frame at) typed inner why = elim why.1 [
  | inl h ↦
      let target = typed.target in
      let target = rw h.jumps at target in
      let framed = target.framed in
      let framed = rw h.bare at framed in
      absurd (cc)
  | inr h ↦ h.1 typed.jump
]
contradicts p ds pc i s (fault.Routine at) typed inner why = why.2 typed.placed
contradicts p ds pc i s (fault.Constant at) typed inner why = why.3 typed.constant
contradicts p ds pc i s (fault.Underflow at) typed inner why = absurd (omega (arith, typed.operands, why.2))
contradicts p ds pc i s (fault.Kind at) typed inner why = elim why.2 [
  | inl none ↦
      let yes = typed.kinds in
      absurd (cc)
  | inr none ↦
      let yes = typed.passed in
      absurd (cc)
]
contradicts p ds pc i s (fault.Unbound at) typed inner why =
    let yes = typed.slot in
    let none = why.2 in
    absurd (cc)
contradicts p ds pc i s (fault.Depth at) typed inner why = elim why.2 [
  | inl deep ↦ absurd (omega (arith, typed.depth, deep))
  | inr deep ↦ absurd (omega (arith, inner, deep))
]
contradicts p ds pc i s (fault.FallsOff at) typed inner why = absurd (omega (arith, typed.last why.2, why.3))

-- the target is wrong, with its fault
data Misses (p : Program) (pc : ℕ) (i : Instr) : Fault → Type 0 where
  outside : {t : ℕ} → JumpsTo i t → length p.instructions ≤ t → Misses p pc i (fault.JumpOutside pc)
  back : {t : ℕ} → JumpsTo i t → t < length p.instructions → t ≤ pc → Misses p pc i (fault.JumpBack pc)
  unframed : {t : ℕ} → JumpsTo i t → t < length p.instructions → pc < t → Misses p pc i (fault.Frame pc)

one_target : (i : Instr) (t u : ℕ) → JumpsTo i t → JumpsTo i u → t ≡ u
one_target i t u a b = same_Some t u (sym a ∙ b)

misses_once : (p : Program) (pc : ℕ) (i : Instr) (told again : Fault) → Misses p pc i told → Misses p pc i again → told ≡ again
misses_once p pc i told again (outside {t = t} a l) (outside b m) = refl
misses_once p pc i told again (outside {t = t} a l) (back {t = u} b m n) = absurd (omega (arith, one_target i t u a b, l, m))
misses_once p pc i told again (outside {t = t} a l) (unframed {t = u} b m n) = absurd (omega (arith, one_target i t u a b, l, m))
misses_once p pc i told again (back {t = t} a l k) (outside {t = u} b m) = absurd (omega (arith, one_target i t u a b, l, m))
misses_once p pc i told again (back a l k) (back b m n) = refl
misses_once p pc i told again (back {t = t} a l k) (unframed {t = u} b m n) = absurd (omega (arith, one_target i t u a b, k, n))
misses_once p pc i told again (unframed {t = t} a l k) (outside {t = u} b m) = absurd (omega (arith, one_target i t u a b, l, m))
misses_once p pc i told again (unframed {t = t} a l k) (back {t = u} b m n) = absurd (omega (arith, one_target i t u a b, k, n))
misses_once p pc i told again (unframed a l k) (unframed b m n) = refl

module _ (p : Program) (ds : List ℕ) (pc : ℕ) (i : Instr) (s : Shape) where
  -- the checks, in their order
  abbrev Check : ℕ → Type 0
  Check zero = IsTargetFit p pc i
  Check (suc zero) = IsPlaced p i
  Check (suc (suc zero)) = IsConstantFit p i
  Check (suc (suc (suc zero))) = needs p i ≤ length s.kinds
  Check (suc (suc (suc (suc zero)))) = IsTrue (kinds_fit i s.kinds) × IsTrue (passes p i s.kinds)
  Check (suc (suc (suc (suc (suc zero))))) = IsTrue (slot_fits p i s.bound)
  Check (suc (suc (suc (suc (suc (suc zero)))))) =
      (length (left_shape p i s).kinds ≤ most_places) × (inner_depth p ds i s ≤ most_places)
  Check (suc (suc (suc (suc (suc (suc (suc zero))))))) = IsJumpFit p i s
  Check (suc (suc (suc (suc (suc (suc (suc (suc n)))))))) = IsTrue (goes_on i) → suc pc < length p.instructions

  -- the fault of a check that fails
  abbrev Tells : ℕ → Fault → Type 0
  Tells zero told = Misses p pc i told
  Tells (suc zero) told = told ≡ fault.Routine pc
  Tells (suc (suc zero)) told = told ≡ fault.Constant pc
  Tells (suc (suc (suc zero))) told = told ≡ fault.Underflow pc
  Tells (suc (suc (suc (suc zero)))) told = told ≡ fault.Kind pc
  Tells (suc (suc (suc (suc (suc zero))))) told = told ≡ fault.Unbound pc
  Tells (suc (suc (suc (suc (suc (suc zero)))))) told = told ≡ fault.Depth pc
  Tells (suc (suc (suc (suc (suc (suc (suc zero))))))) told = told ≡ fault.Frame pc
  Tells (suc (suc (suc (suc (suc (suc (suc (suc n)))))))) told = told ≡ fault.FallsOff pc

  tells_once : (k : ℕ) (told again : Fault) → Tells k told → Tells k again → told ≡ again
  tells_once zero told again a b = misses_once p pc i told again a b
  tells_once (suc zero) told again a b = a ∙ sym b
  tells_once (suc (suc zero)) told again a b = a ∙ sym b
  tells_once (suc (suc (suc zero))) told again a b = a ∙ sym b
  tells_once (suc (suc (suc (suc zero)))) told again a b = a ∙ sym b
  tells_once (suc (suc (suc (suc (suc zero))))) told again a b = a ∙ sym b
  tells_once (suc (suc (suc (suc (suc (suc zero)))))) told again a b = a ∙ sym b
  tells_once (suc (suc (suc (suc (suc (suc (suc zero))))))) told again a b = a ∙ sym b
  tells_once (suc (suc (suc (suc (suc (suc (suc (suc n)))))))) told again a b = a ∙ sym b

  -- the checks before one pass
  abbrev PassBelow : ℕ → Type 0
  PassBelow zero = Unit {0}
  PassBelow (suc k) = Check k × PassBelow k

  all_before : (k j : ℕ) → j < k → PassBelow k → Check j
  all_before zero j below h = absurd (omega arith)
  all_before (suc k) j below h = elim (cases_lt j k) [
    | inl less ↦ all_before k j less h.1
    | inr more ↦ let same : k ≡ j = omega (arith, below, more) in subst Check same h.0
  ]

  record FailsFirst (told : Fault) : Type 0 where
    check : ℕ
    before : PassBelow check
    fails : ¬ Check check
    tells : Tells check told

  fails_once : (told again : Fault) → FailsFirst told → FailsFirst again → told ≡ again
  fails_once told again a b = elim (cases_lt a.check b.check) [
    | inl less ↦ absurd (a.fails (all_before b.check a.check less b.before))
    | inr more ↦ elim (cases_lt b.check a.check) [
      | inl less ↦ absurd (b.fails (all_before a.check b.check less a.before))
      | inr least ↦
          let same : a.check ≡ b.check = omega (arith, more, least) in
          tells_once b.check told again (subst (λ k. Tells k told) same a.tells) b.tells
    ]
  ]

  -- the checks that passed before
  naming_passed : IsNamingFit p pc i → PassBelow 3
  naming_passed n = (n.constant, (n.placed, (n.target, tt)))

  operands_passed : AreOperandsFit p pc i s → PassBelow 4
  operands_passed o = (o.operands, naming_passed o.naming)

  kinds_passed : AreKindsFit p pc i s → PassBelow 5
  kinds_passed k = ((k.kinds, k.passed), operands_passed k.operands)

  slot_passed : IsSlotFit p pc i s → PassBelow 6
  slot_passed h = (h.slot, kinds_passed h.kinds)

  depth_passed : IsDepthFit p ds pc i s → PassBelow 7
  depth_passed d = ((d.depth, d.inner), slot_passed d.slot)

  fails_first : (told : Fault) → IsFaultIn p ds pc i s told → FailsFirst told
  fails_first fault.Memory why = absurd why
  fails_first fault.Budget why = absurd why
  fails_first (fault.JumpOutside at) why =
      record {
        check = 0;
        before = tt;
        fails = λ fit. let fit = rw why.1.1 at fit in absurd (omega (arith, fit.inside, why.1.2));
        tells = rw why.0 (outside {t = why.1.0} why.1.1 why.1.2);
      }
  fails_first (fault.JumpBack at) why =
      record {
        check = 0;
        before = tt;
        fails = λ fit. let fit = rw why.1.1 at fit in absurd (omega (arith, fit.ahead, why.1.3));
        tells = rw why.0 (back {t = why.1.0} why.1.1 why.1.2 why.1.3);
      }
  fails_first (fault.Frame at) why = elim why.1 [
    | inl h ↦ record {
      check = 0;
      before = tt;
      fails = λ fit. let fit = rw h.jumps at fit in let framed = fit.framed in let framed = rw h.bare at framed in absurd (cc);
      tells = rw why.0 (unframed {t = h.target} h.jumps h.inside h.ahead);
    }
    | inr h ↦ record { check = 7; before = depth_passed h.0; fails = h.1; tells = ap fault.Frame why.0 }
  ]
  fails_first (fault.Routine at) why = record { check = 1; before = (why.1, tt); fails = why.2; tells = ap fault.Routine why.0 }
  fails_first (fault.Constant at) why = record { check = 2; before = (why.2, (why.1, tt)); fails = why.3; tells = ap fault.Constant why.0 }
  fails_first (fault.Underflow at) why =
      record { check = 3; before = naming_passed why.1; fails = λ fit. absurd (omega (arith, fit, why.2)); tells = ap fault.Underflow why.0 }
  fails_first (fault.Kind at) why =
      record {
        check = 4;
        before = operands_passed why.1;
        fails = λ fit. elim why.2 [ inl none ↦ let yes = fit.0 in absurd (cc) | inr none ↦ let yes = fit.1 in absurd (cc) ];
        tells = ap fault.Kind why.0;
      }
  fails_first (fault.Unbound at) why =
      record { check = 5; before = kinds_passed why.1; fails = λ fit. let none = why.2 in absurd (cc); tells = ap fault.Unbound why.0 }
  fails_first (fault.Depth at) why =
      record {
        check = 6;
        before = slot_passed why.1;
        fails = λ fit. elim why.2 [ inl deep ↦ absurd (omega (arith, fit.0, deep)) | inr deep ↦ absurd (omega (arith, fit.1, deep)) ];
        tells = ap fault.Depth why.0;
      }
  fails_first (fault.FallsOff at) why =
      let l = why.1 in
      record {
        check = 8;
        before = (l.jump, depth_passed l.depth);
        fails = λ fit. let next = fit why.2 in absurd (omega (arith, next, why.3));
        tells = ap fault.FallsOff why.0;
      }

-- an instruction has at most one fault
pub fault_once : (p : Program) (ds : List ℕ) (pc : ℕ) (i : Instr) (s : Shape) (told again : Fault) → IsFaultIn p ds pc i s told → IsFaultIn p ds pc i s again → told ≡ again
fault_once p ds pc i s told again a b = fails_once p ds pc i s told again (fails_first p ds pc i s told a) (fails_first p ds pc i s again b)

-- an instruction has the same fault if the depths of the bodies with higher numbers agree
module _ (p : Program) (ds es : List ℕ) (pc : ℕ) (i : Instr) (s : Shape) (same : IsPlaced p i → inner_depth p ds i s ≡ inner_depth p es i s) where
  depth_moves : IsDepthFit p ds pc i s → IsDepthFit p es pc i s
  depth_moves d =
      let e = same d.slot.kinds.operands.naming.placed in
      record { slot = d.slot; depth = d.depth; inner = omega (arith, d.inner, e) }

  pub fault_moves : (told : Fault) → IsFaultIn p ds pc i s told → IsFaultIn p es pc i s told
  fault_moves fault.Memory why = why
  fault_moves fault.Budget why = why
  fault_moves (fault.JumpOutside at) why = why
  fault_moves (fault.JumpBack at) why = why
  fault_moves (fault.Frame at) why = (why.0, elim why.1 [ inl h ↦ inl h | inr h ↦ inr (depth_moves h.0, h.1) ])
  fault_moves (fault.Routine at) why = why
  fault_moves (fault.Constant at) why = why
  fault_moves (fault.Underflow at) why = why
  fault_moves (fault.Kind at) why = why
  fault_moves (fault.Unbound at) why = why
  fault_moves (fault.Depth at) why =
      let e = same why.1.kinds.operands.naming.placed in
      (why.0, why.1, elim why.2 [ inl deep ↦ inl deep | inr deep ↦ inr (omega (arith, deep, e)) ])
  fault_moves (fault.FallsOff at) why = (why.0, record { depth = depth_moves why.1.depth; jump = why.1.jump }, why.2, why.3)
