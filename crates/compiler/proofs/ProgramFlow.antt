-- The code of a specification is typed.
use Rattle.std.proofs.Common.{◌≡◌, ℕ, zero, suc, ◌+◌, ◌<◌, ◌≤◌, ◌⊎◌, cond, Bool, true, false, List, [], ◌∷◌, length, replicate, reverse, slice_get, refl, sym, ◌∙◌, ap, subst, arith, inl, inr, Option, Some, None}
use Rattle.std.specs.Prelude.{IfSome, IsTrue, All, slice_index}
use Rattle.std.specs.Option.{option_and_then}
use Rattle.std.proofs.lemmas.Bool.{cases_eq}
use Rattle.std.proofs.lemmas.Option.{slice_get_within, slice_get-get_or, same_Some}
use Rattle.std.proofs.lemmas.List.Sums.{sum_by-cons}
use Rattle.std.proofs.lemmas.List.Elements.{All-head, All-tail, All-get_or}
use Rattle.mcode.specs.Instr.{goes_on}
use Rattle.mcode.specs.Program.{Program, Frame, alone, frame_at, routine_at, most_parts}
use Rattle.mcode.specs.declared.instr.Instr.{Instr}
use Rattle.mcode.specs.declared.instr.Instr.TheVariants as instr
use Rattle.mcode.specs.declared.kind.Kind.{Kind}
use Rattle.mspec_syntax.specs.Sound.{IsSoundClause}
use Rattle.mspec_syntax.specs.Specification.{Specification, clause_nodes, specification_nodes}
use Rattle.verifier_types.specs.Effect.{arguments_of, falling_shape, left_shape, passes}
use Rattle.verifier_types.specs.Inner.{inner_depth}
use Rattle.verifier_types.specs.Shape.{Shape, start_shape}
use Rattle.verifier_types.specs.Fit.{IsFrameFit, IsPlaced, IsTypedAt, most_places}
use Rattle.verifier.specs.Typing.{entry_shape, Begins, falling_into, IsTypedIn, HasShapes, IsPlain, IsDepth}
use Rattle.verifier.proofs.OnceLemmas.{shapes_once}
use Rattle.verifier_types.proofs.ShapeLemmas.{length-frame_kinds}
use Rattle.compiler_assembly.specs.Assembled.{IsPlain as StaysInBody}
use Rattle.compiler_assembly.specs.Line.{line_total}
use Rattle.compiler_assembly.specs.Stands.{AreStanding}
use Rattle.compiler_clauses.specs.Clauses.{clause_block, blocks_of}
use Rattle.compiler.specs.Flow.{IsFit, Flows}
use Rattle.compiler.proofs.ClauseFlow.{IsNamed, clause_flow}
use Rattle.compiler.proofs.FlowLemmas.{flows_then}

-- instructions that are typed one after the other, and the last one after them
pub record FlowsOut (p : Program) (most pc total : ℕ) : Type 0 where
  pub count : ℕ
  pub total_is : total ≡ suc count
  pub flows : Flows p most pc (start_shape p) count (start_shape p)
  pub last : slice_get p.instructions (pc + count) ≡ Some instr.NoAnswer

module _ (p : Program) (most : ℕ) (vs : List ℕ) (slots_are : p.slots ≡ length vs) (frames_inside : (n : ℕ) (f : Frame) → frame_at p.frames n ≡ Some f → n < length p.instructions) where
  pub blocks_flow : (cs : Specification) (pc : ℕ) → All IsSoundClause cs → All (IsNamed p most vs slots_are frames_inside) cs → specification_nodes cs ≤ most → AreStanding p pc (blocks_of vs cs) → FlowsOut p most pc (line_total (blocks_of vs cs))
  blocks_flow [] pc sound named room stands =
      let here : pc ≡ pc + 0 = omega arith in
      record {
        count = 0;
        total_is = refl;
        flows = refl;
        last = subst (λ n. slice_get p.instructions n ≡ Some instr.NoAnswer) here stands.0.0.instruction;
      }
  blocks_flow (c ∷ cs) pc sound named room stands =
      let sum = sum_by-cons clause_nodes c cs in
      let n = length (clause_block vs c).lines in
      let first = clause_flow p most vs slots_are frames_inside c pc (pc + n) (All-head IsSoundClause c cs sound) (All-head (IsNamed p most vs slots_are frames_inside) c cs named) (omega (arith, room, sum)) stands.0 refl in
      let rest = blocks_flow cs (pc + n) (All-tail IsSoundClause c cs sound) (All-tail (IsNamed p most vs slots_are frames_inside) c cs named) (omega (arith, room, sum)) stands.1 in
      let there : pc + n + rest.count ≡ pc + (n + rest.count) = omega arith in
      record {
        count = n + rest.count;
        total_is = omega (arith, rest.total_is);
        flows = flows_then p most n rest.count pc (start_shape p) (start_shape p) (start_shape p) first rest.flows;
        last = subst (λ m. slice_get p.instructions m ≡ Some instr.NoAnswer) there rest.last;
      }

-- the state before each instruction
pub shapes_of : (p : Program) (most n pc : ℕ) (s t : Shape) → Flows p most pc s n t → ℕ → Shape
shapes_of p most zero pc s t f k = s
shapes_of p most (suc n) pc s t f zero = s
shapes_of p most (suc n) pc s t f (suc k) = shapes_of p most n (suc pc) f.3.0 t f.3.2 k

module _ (p : Program) (most : ℕ) where
  first_shape : (n pc : ℕ) (s t : Shape) (f : Flows p most pc s n t) → shapes_of p most n pc s t f 0 ≡ s
  unfolding shapes_of
  first_shape zero pc s t f = refl
  first_shape (suc n) pc s t f = refl

  last_shape : (n pc : ℕ) (s t : Shape) (f : Flows p most pc s n t) → shapes_of p most n pc s t f n ≡ t
  unfolding shapes_of
  last_shape zero pc s t f = f
  last_shape (suc n) pc s t f = last_shape n (suc pc) f.3.0 t f.3.2

  -- an instruction that is typed, and the state with which the next one begins
  record IsIn (at pc k : ℕ) (shapes : ℕ → Shape) : Type 0 where
    instruction : Instr
    there : slice_get p.instructions at ≡ Some instruction
    fit : IsFit p most at instruction (shapes k)
    next : Begins p (falling_shape p instruction (shapes k)) (frame_at p.frames (suc at)) (shapes (suc k))

  each_in : (n pc : ℕ) (s t : Shape) (f : Flows p most pc s n t) (k at : ℕ) → k < n → at ≡ pc + k → IsIn at pc k (shapes_of p most n pc s t f)
  unfolding shapes_of
  each_in zero pc s t f k at less is = absurd (omega (arith, less))
  each_in (suc n) pc s t f zero at less is =
      let here : pc ≡ at = omega (arith, is) in
      let begins = subst (λ u. Begins p (falling_shape p f.0 s) (frame_at p.frames (suc pc)) u) (sym (first_shape n (suc pc) f.3.0 t f.3.2)) f.3.1 in
      record {
        instruction = f.0;
        there = subst (λ m. slice_get p.instructions m ≡ Some f.0) here f.1;
        fit = subst (λ m. IsFit p most m f.0 s) here f.2;
        next = subst (λ m. Begins p (falling_shape p f.0 s) (frame_at p.frames (suc m)) (shapes_of p most n (suc pc) f.3.0 t f.3.2 0)) here begins;
      }
  each_in (suc n) pc s t f (suc k) at less is =
      let rest = each_in n (suc pc) f.3.0 t f.3.2 k at (omega (arith, less)) (omega (arith, is)) in
      record { instruction = rest.instruction; there = rest.there; fit = rest.fit; next = rest.next }

-- an instruction that neither invokes a routine nor ends one may be in the main body, whatever the depths of routines
stays_placed : (p : Program) (i : Instr) → p.around.number ≡ 0 → StaysInBody i → IsPlaced p i
stays_placed p instr.Answer main stays = main
stays_placed p instr.NoAnswer main stays = main
stays_placed p (instr.Invoke r l) main stays = absurd stays
stays_placed p instr.Return main stays = absurd stays
stays_placed p instr.Fail main stays = absurd stays
stays_placed p i main stays = tt

stays_passes : (p : Program) (i : Instr) (ks : List Kind) → StaysInBody i → IsTrue (passes p i ks)
stays_passes p (instr.Invoke r l) ks stays = absurd stays
stays_passes p instr.Return ks stays = absurd stays
stays_passes p i ks stays = refl

stays_inner : (p : Program) (ds : List ℕ) (i : Instr) (s : Shape) → StaysInBody i → inner_depth p ds i s ≡ 0
stays_inner p ds (instr.Invoke r l) s stays = absurd stays
stays_inner p ds i s stays = refl

below : (a b : ℕ) → a ≤ b → (a ≡ b → ⊥) → a < b
below a b le differ =
    elim (cases_eq a b) [
      | inl z ↦ absurd (differ z)
      | inr z ↦ omega (arith, le, z)
    ]

module _ (p : Program) (most : ℕ) (within : most ≤ most_places) (main : p.around.number ≡ 0) (stay : All StaysInBody p.instructions) (no_first : frame_at p.frames 0 ≡ None) (out : FlowsOut p most 0 (length p.instructions)) where
  abbrev pub shapes : ℕ → Shape
  shapes = shapes_of p most out.count 0 (start_shape p) (start_shape p) out.flows

  stays_at : (pc : ℕ) (i : Instr) → slice_get p.instructions pc ≡ Some i → StaysInBody i
  stays_at pc i here =
      let inside = slice_get_within p.instructions pc i here in
      subst StaysInBody (same_Some _ _ (sym (slice_get-get_or p.instructions pc i inside) ∙ here)) (All-get_or StaysInBody p.instructions pc i inside stay)

  -- the main body begins without anything on the stack
  abbrev entered : ℕ → Shape
  entered n =
      record { kinds = reverse (arguments_of (routine_at p n)); bound = replicate p.slots false }

  entry_is : entry_shape p ≡ start_shape p
  entry_is = ap entered main

  -- the state with which an instruction begins
  begins_at : (pc : ℕ) → pc ≤ out.count → Begins p (falling_into p shapes pc) (frame_at p.frames pc) (shapes pc)
  begins_at zero le =
      let first = first_shape p most out.count 0 (start_shape p) (start_shape p) out.flows in
      rw no_first (ap Some (entry_is ∙ sym first))
  begins_at (suc pc) le =
      let one = each_in p most out.count 0 (start_shape p) (start_shape p) out.flows pc pc (omega (arith, le)) (omega arith) in
      rw one.there one.next

  -- the last instruction, and any other
  ending : (pc : ℕ) (i : Instr) → pc ≡ out.count → slice_get p.instructions pc ≡ Some i → (instr.NoAnswer ≡ i) × (start_shape p ≡ shapes pc)
  ending pc i same here =
      let count : 0 + out.count ≡ pc = omega (arith, same) in
      let last = subst (λ m. slice_get p.instructions m ≡ Some instr.NoAnswer) count out.last in
      let is : instr.NoAnswer ≡ i = let both = sym last ∙ here in cc in
      let end = last_shape p most out.count 0 (start_shape p) (start_shape p) out.flows in
      let ends : shapes pc ≡ start_shape p = ap shapes same ∙ end in
      (is, sym ends)

  fitting : (pc : ℕ) (i : Instr) → pc < out.count → slice_get p.instructions pc ≡ Some i → IsFit p most pc i (shapes pc)
  fitting pc i before here =
      let one = each_in p most out.count 0 (start_shape p) (start_shape p) out.flows pc pc before (omega arith) in
      let is : one.instruction ≡ i = let both = sym one.there ∙ here in cc in
      subst (λ j. IsFit p most pc j (shapes pc)) is one.fit

  inner_none : (ds : List ℕ) (pc : ℕ) (i : Instr) → slice_get p.instructions pc ≡ Some i → inner_depth p ds i (shapes pc) ≤ most_places
  inner_none ds pc i here = omega (arith, stays_inner p ds i (shapes pc) (stays_at pc i here))

  typed_in : (ds : List ℕ) (pc : ℕ) (i : Instr) → pc < length p.instructions → slice_get p.instructions pc ≡ Some i → IsTypedIn p ds shapes pc i
  typed_in ds pc i less here =
      elim (cases_eq pc out.count) [
        | inl same ↦
            let ends = ending pc i same here in
            record { begins = begins_at pc (omega (arith, same)); typed = subst (λ j. IsTypedAt p pc j (shapes pc)) ends.0 (subst (λ u. IsTypedAt p pc instr.NoAnswer u) ends.1 (end_typed pc)); inner = inner_none ds pc i here }
        | inr differ ↦
            let total = out.total_is in
            let before : pc < out.count = below pc out.count (omega (arith, less, total)) differ in
            let fit = fitting pc i before here in
            record {
              begins = begins_at pc (omega (arith, before));
              typed = record {
                target = fit.target;
                placed = stays_placed p i main (stays_at pc i here);
                constant = fit.constant;
                operands = fit.operands;
                kinds = fit.kinds;
                passed = stays_passes p i (shapes pc).kinds (stays_at pc i here);
                slot = fit.slot;
                depth = omega (arith, fit.depth, within);
                jump = fit.jump;
                last = λ on. omega (arith, before, total);
              };
              inner = inner_none ds pc i here;
            }
      ]
    where
      end_typed : (pc : ℕ) → IsTypedAt p pc instr.NoAnswer (start_shape p)
      end_typed pc = record { target = tt; placed = main; constant = tt; operands = omega arith; kinds = refl; passed = refl; slot = refl; depth = omega arith; jump = tt; last = λ on. absurd (cc) }

  pub is_plain : p.around ≡ alone → length p.instructions ≤ most_parts → All (IsFrameFit p) p.frames → IsPlain p shapes
  is_plain around few fit = record {
    around = around;
    few = few;
    frames = fit;
    some = omega (arith, out.total_is);
    begins = λ pc i here. (typed_in [] pc i (slice_get_within p.instructions pc i here) here).begins;
    typed = λ pc i here. (typed_in [] pc i (slice_get_within p.instructions pc i here) here).typed;
  }

  has_shapes : All (IsFrameFit p) p.frames → (ds : List ℕ) → HasShapes p ds shapes
  has_shapes fit ds = record { frames = fit; some = omega (arith, out.total_is); each = λ pc i less here. typed_in ds pc i less here }

  -- ---- how deep the stack is

  left_depth : (pc : ℕ) (i : Instr) → pc < length p.instructions → slice_get p.instructions pc ≡ Some i → length (left_shape p i (shapes pc)).kinds ≤ most
  left_depth pc i less here =
      elim (cases_eq pc out.count) [
        | inl same ↦
            let ends = ending pc i same here in
            subst (λ j. length (left_shape p j (shapes pc)).kinds ≤ most) ends.0 (subst (λ u. length (left_shape p instr.NoAnswer u).kinds ≤ most) ends.1 (omega arith))
        | inr differ ↦ (fitting pc i (below pc out.count (omega (arith, less, out.total_is)) differ) here).depth
      ]

  fallen_depth : (pc : ℕ) (o : Option Instr) → slice_get p.instructions pc ≡ o → IfSome (option_and_then (λ i. falling_shape p i (shapes pc)) o) (λ s. length s.kinds ≤ most)
  fallen_depth pc None here = tt
  fallen_depth pc (Some i) here =
      falls (goes_on i) (left_shape p i (shapes pc)) (left_depth pc i (slice_get_within p.instructions pc i here) here)
    where
      falls : (on : Bool) (s : Shape) → length s.kinds ≤ most → IfSome (cond on (Some s) None) (λ t. length t.kinds ≤ most)
      falls true s low = low
      falls false s low = tt

  falling_depth : (pc : ℕ) → IfSome (falling_into p shapes pc) (λ s. length s.kinds ≤ most)
  falling_depth zero = omega (arith, ap (λ (s : Shape). length s.kinds) entry_is)
  falling_depth (suc pc) = fallen_depth pc (slice_get p.instructions pc) refl

  begun_depth : (falling : Option Shape) (frame : Option Frame) (s : Shape) → IfSome frame (λ f. f.depth ≤ most) → IfSome falling (λ t. length t.kinds ≤ most) → Begins p falling frame s → length s.kinds ≤ most
  begun_depth falling None s shallow low begins = subst (λ o. IfSome o (λ t. length t.kinds ≤ most)) begins low
  begun_depth falling (Some f) s shallow low begins =
      omega (arith, shallow, length-frame_kinds f.places f.depth, ap (λ t. length t.kinds) begins.0)

  -- if no frame is deeper than `most`, neither is the stack
  pub depth_within : ((n : ℕ) → IfSome (frame_at p.frames n) (λ f. f.depth ≤ most)) → All (IsFrameFit p) p.frames → (depth : ℕ) → IsDepth p depth → depth ≤ most
  depth_within shallow fit depth d =
      let own = d.1.each 0 (omega arith) (omega arith) in
      let n = slice_index d.0 0 in
      let pc = own.most.reached.0 in
      let i = own.most.reached.1 in
      let here = own.most.reached.2 in
      let inside = slice_get_within p.instructions pc i here in
      let total = out.total_is in
      let same = shapes_once p d.0 d.0 own.shapes shapes (length p.instructions) (length p.instructions) pc i own.typing.each (has_shapes fit d.0).each inside inside here in
      let begun = begun_depth (falling_into p shapes pc) (frame_at p.frames pc) (shapes pc) (shallow pc) (falling_depth pc) (begins_at pc (omega (arith, inside, total))) in
      let left = left_depth pc i inside here in
      elim (subst (λ s. ((n ≡ length s.kinds) ⊎ (n ≡ length (left_shape p i s).kinds)) ⊎ (n ≡ inner_depth p d.0 i s)) same own.most.reached.3) [
        | inl at ↦ elim at [
          | inl e ↦ omega (arith, e, begun, d.2)
          | inr e ↦ omega (arith, e, left, d.2)
        ]
        | inr e ↦ omega (arith, e, stays_inner p d.0 i (shapes pc) (stays_at pc i here), d.2)
      ]
