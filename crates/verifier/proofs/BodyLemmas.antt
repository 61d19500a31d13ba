-- What holds for a body depends only on the depths and the budgets of those with higher numbers, so code has one first
-- fault and one greatest depth.
use Rattle.std.specs.Prelude.{ℕ, zero, suc, ◌≡◌, ◌+◌, ◌-◌, ◌≤◌, Some, List, length, slice_get, slice_index}
use Rattle.std.proofs.Common.{arith, refl, sym, ap, subst, ◌∙◌, inl, inr}
use Rattle.std.proofs.lemmas.Bool.{cases_lt}
use Rattle.std.proofs.lemmas.List.{get_or_past}
use Rattle.std.proofs.lemmas.Option.{slice_get_within}
use Rattle.budget.specs.Paths.{IsForward, IsCallForward}
use Rattle.budget.proofs.BodyLemmas.{AgreeBehind, ForwardFrom, body_once, budget_agrees, budgets_agree}
use Rattle.mcode.specs.Program.{Program, body_of, routine_at}
use Rattle.mcode.proofs.BodyLemmas.{least_number_of_body}
use Rattle.mcode.specs.declared.instr.Instr.{Instr}
use Rattle.mcode.specs.declared.instr.Instr.TheVariants as instr
use Rattle.verifier_types.specs.Shape.{Shape}
use Rattle.verifier_types.specs.Effect.{arguments_of}
use Rattle.verifier_types.specs.Inner.{inner_depth}
use Rattle.verifier_types.specs.Fit.{IsPlaced}
use Rattle.verifier_types.specs.declared.fault.Fault.{Fault}
use Rattle.verifier_types.proofs.FaultLemmas.{fault_moves}
use Rattle.verifier.specs.Typing.{AreTypedBelow, HasShapes, IsDepthAt, IsBodyDepth, AreBodyDepths, IsDepth, AreTypedFrom, IsTyped}
use Rattle.verifier.specs.Faults.{IsBodyFault, IsFirstFault}
use Rattle.verifier.proofs.FaultLemmas.{faulty_untyped}
use Rattle.verifier.proofs.OnceLemmas.{body_depth_once, body_fault_once}

-- ---- one body, with depths that agree after it

module _ (p : Program) (ds es : List ℕ) (same : AgreeBehind p.around.number ds es) where
  pub inner_agrees : (i : Instr) (s : Shape) → IsPlaced p i → inner_depth p ds i s ≡ inner_depth p es i s
  inner_agrees (instr.Invoke r l) s placed = ap (λ n. (length s.kinds - length (arguments_of (routine_at p r))) + n) (same r placed.0)
  inner_agrees i s placed = refl

  pub typed_moves : (shapes : ℕ → Shape) (n : ℕ) → AreTypedBelow p ds shapes n → AreTypedBelow p es shapes n
  typed_moves shapes n typed pc i below here =
      let there = typed pc i below here in
      record { begins = there.begins; typed = there.typed; inner = omega (arith, there.inner, inner_agrees i (shapes pc) there.typed.placed) }

  pub shapes_move : (shapes : ℕ → Shape) → HasShapes p ds shapes → HasShapes p es shapes
  shapes_move shapes typing = record { frames = typing.frames; some = typing.some; each = typed_moves shapes (length p.instructions) typing.each }

  depth_moves : (shapes : ℕ → Shape) (pc : ℕ) (i : Instr) (n : ℕ) → IsPlaced p i → IsDepthAt p ds shapes pc i n → IsDepthAt p es shapes pc i n
  depth_moves shapes pc i n placed (inl own) = inl own
  depth_moves shapes pc i n placed (inr inner) = inr (inner ∙ inner_agrees i (shapes pc) placed)

  depth_moves_back : (shapes : ℕ → Shape) (pc : ℕ) (i : Instr) (n : ℕ) → IsPlaced p i → IsDepthAt p es shapes pc i n → IsDepthAt p ds shapes pc i n
  depth_moves_back shapes pc i n placed (inl own) = inl own
  depth_moves_back shapes pc i n placed (inr inner) = inr (inner ∙ sym (inner_agrees i (shapes pc) placed))

  pub body_depth_moves : (n : ℕ) → IsBodyDepth p ds n → IsBodyDepth p es n
  body_depth_moves n deep = record {
    shapes = deep.shapes;
    typing = shapes_move deep.shapes deep.typing;
    most = record {
      reached =
          let at = deep.most.reached in
          (at.0, at.1, at.2, depth_moves deep.shapes at.0 at.1 n (placed at.0 at.1 at.2) at.3);
      greatest = λ pc i m here found. deep.most.greatest pc i m here (depth_moves_back deep.shapes pc i m (placed pc i here) found);
    };
  }
    where
      placed : (pc : ℕ) (i : Instr) → slice_get p.instructions pc ≡ Some i → IsPlaced p i
      placed pc i here = (deep.typing.each pc i (slice_get_within p.instructions pc i here) here).typed.placed

  pub body_fault_moves : (told : Fault) → IsBodyFault p ds told → IsBodyFault p es told
  body_fault_moves told (inl unfit) = inl unfit
  body_fault_moves told (inr (inl empty)) = inr (inl empty)
  body_fault_moves told (inr (inr first)) = inr (inr (record {
    pc = first.pc;
    instr = first.instr;
    shapes = first.shapes;
    frames = first.frames;
    here = first.here;
    before = typed_moves first.shapes first.pc first.before;
    why = elim first.why [
      | inl h ↦ inl h
      | inr h ↦ inr (h.0, fault_moves p ds es first.pc first.instr (first.shapes first.pc) (inner_agrees first.instr (first.shapes first.pc)) told h.1)
    ];
  }))

-- typed code goes forward
pub typed_forward : (p : Program) (ds : List ℕ) (shapes : ℕ → Shape) → HasShapes p ds shapes → IsForward p
typed_forward p ds shapes typing = record {
  jumps = λ a b i here jumps.
      let target = (typing.each a i (slice_get_within p.instructions a i here) here).typed.target in
      let target = rw jumps at target in
      (target.ahead, target.inside);
  calls = λ a i here. call i (typing.each a i (slice_get_within p.instructions a i here) here).typed.placed;
}
  where
    call : (i : Instr) → IsPlaced p i → IsCallForward p i
    call (instr.Invoke r l) placed = placed
    call i placed = tt

-- ---- all bodies

pub bodies_forward : (p : Program) (from : ℕ) (ds budgets : List ℕ) → AreTypedFrom p from ds budgets → ForwardFrom p from
bodies_forward p from ds budgets typed b low inside =
    let shapes = typed.bodies b low inside in
    typed_forward (body_of p b) ds shapes.0 shapes.1

-- the depths from a body on are unique
pub depths_agree : (p : Program) (from : ℕ) (ds es : List ℕ) → AreBodyDepths p from ds → AreBodyDepths p from es → (c : ℕ) → from ≤ c → slice_index ds c ≡ slice_index es c
depths_agree p from ds es are again c low = by (suc (length p.around.routines) - c) c low (omega arith)
  where
    by : (left c : ℕ) → from ≤ c → suc (length p.around.routines) ≤ left + c → slice_index ds c ≡ slice_index es c
    by zero c low past = get_or_past ds c 0 (omega (arith, past, are.count)) ∙ sym (get_or_past es c 0 (omega (arith, past, again.count)))
    by (suc left) c low past = elim (cases_lt (length p.around.routines) c) [
      | inl above ↦ get_or_past ds c 0 (omega (arith, above, are.count)) ∙ sym (get_or_past es c 0 (omega (arith, above, again.count)))
      | inr inside ↦
          let same : AgreeBehind (body_of p c).around.number ds es = λ d behind. by left d (omega (arith, behind, low, least_number_of_body p c)) (omega (arith, behind, past, least_number_of_body p c)) in
          body_depth_once (body_of p c) es _ _ (body_depth_moves (body_of p c) ds es same _ (are.each c low inside)) (again.each c low inside)
    ]

pub depth_once : (p : Program) (n m : ℕ) → IsDepth p n → IsDepth p m → n ≡ m
depth_once p n m a b = a.2 ∙ depths_agree p 0 a.0 b.0 a.1 b.1 0 (omega arith) ∙ sym b.2

-- typed code is typed from each body on
pub typed_from : (p : Program) (from : ℕ) → (typed : IsTyped p) → AreTypedFrom p from typed.depths typed.budgets
typed_from p from typed = record {
  bodies = λ b low inside. typed.bodies b inside;
  deep = record { count = typed.deep.count; each = λ b low inside. typed.deep.each b (omega arith) inside };
  limits = record { count = typed.limits.count; each = λ b low inside. typed.limits.each b (omega arith) inside };
  few = λ b low. typed.few b;
}

-- code that is typed from a body on is typed from a later one on
pub typed_later : (p : Program) (from later : ℕ) (ds budgets : List ℕ) → from ≤ later → AreTypedFrom p from ds budgets → AreTypedFrom p later ds budgets
typed_later p from later ds budgets more typed = record {
  bodies = λ b low inside. typed.bodies b (omega (arith, low, more)) inside;
  deep = record { count = typed.deep.count; each = λ b low inside. typed.deep.each b (omega (arith, low, more)) inside };
  limits = record { count = typed.limits.count; each = λ b low inside. typed.limits.each b (omega (arith, low, more)) inside };
  few = λ b low. typed.few b (omega (arith, low, more));
}

-- depths and budgets after a body that are found in two ways agree
behind_agrees : (p : Program) (b : ℕ) (ds bs es cs : List ℕ) → AreTypedFrom p (suc b) ds bs → AreTypedFrom p (suc b) es cs → AgreeBehind (body_of p b).around.number ds es × AgreeBehind (body_of p b).around.number bs cs
behind_agrees p b ds bs es cs one two = (
  λ c behind. depths_agree p (suc b) ds es one.deep two.deep c (omega (arith, behind, least_number_of_body p b)),
  λ c behind. budgets_agree p (suc b) bs cs (bodies_forward p (suc b) ds bs one) one.limits two.limits c (omega (arith, behind, least_number_of_body p b)),
)

-- a body that is typed, with a budget within the limit, is not at fault
pub fault_excludes : (p : Program) (b : ℕ) (told : Fault) (ds bs : List ℕ) → IsFirstFault p b told → AreTypedFrom p b ds bs → ⊥
fault_excludes p b told ds bs first typed =
    let q = body_of p b in
    let agree = behind_agrees p b ds bs first.depths first.budgets (typed_later p b (suc b) ds bs (omega arith) typed) first.behind in
    let shapes = typed.bodies b (omega arith) first.inside in
    elim first.why [
      | inl fault ↦ faulty_untyped q first.depths told shapes.0 fault (shapes_move q ds first.depths agree.0 shapes.0 shapes.1)
      | inr over ↦
          let budget = budget_agrees q bs first.budgets _ agree.1 (typed_forward q ds shapes.0 shapes.1) (typed.limits.each b (omega arith) first.inside) in
          let same = body_once q first.budgets _ _ budget over.limit in
          let few = typed.few b (omega arith) in
          absurd (omega (arith, same, few, over.over))
    ]

pub faulty_code_untyped : (p : Program) (b : ℕ) (told : Fault) → IsFirstFault p b told → IsTyped p → ⊥
faulty_code_untyped p b told first typed = fault_excludes p b told typed.depths typed.budgets first (typed_from p b typed)

-- a body has only one first fault
same_body : (p : Program) (b : ℕ) (told again : Fault) → IsFirstFault p b told → IsFirstFault p b again → told ≡ again
same_body p b told again one two =
    let q = body_of p b in
    let agree = behind_agrees p b one.depths one.budgets two.depths two.budgets one.behind two.behind in
    let back = behind_agrees p b two.depths two.budgets one.depths one.budgets two.behind one.behind in
    elim one.why [
      | inl fault ↦ elim two.why [
        | inl other ↦ body_fault_once q two.depths told again (body_fault_moves q one.depths two.depths agree.0 told fault) other
        | inr over ↦ absurd (faulty_untyped q one.depths told over.shapes fault (shapes_move q two.depths one.depths back.0 over.shapes over.typing))
      ]
      | inr over ↦ elim two.why [
        | inl other ↦ absurd (faulty_untyped q two.depths again over.shapes other (shapes_move q one.depths two.depths agree.0 over.shapes over.typing))
        | inr more ↦ over.is ∙ sym more.is
      ]
    ]

pub first_once : (p : Program) (b c : ℕ) (told again : Fault) → IsFirstFault p b told → IsFirstFault p c again → (b ≡ c) × (told ≡ again)
first_once p b c told again one two = elim (cases_lt b c) [
  | inl less ↦ absurd (fault_excludes p c again one.depths one.budgets two (typed_later p (suc b) c one.depths one.budgets less one.behind))
  | inr more ↦ elim (cases_lt c b) [
    | inl less ↦ absurd (fault_excludes p b told two.depths two.budgets one (typed_later p (suc c) b two.depths two.budgets less two.behind))
    | inr least ↦
        let same : b ≡ c = omega (arith, more, least) in
        (same, same_body p c told again (subst (λ n. IsFirstFault p n told) same one) two)
  ]
]
