-- The code of a specification within the limits is typed.
use Rattle.std.proofs.Common.{◌≡◌, ℕ, suc, ◌+◌, ◌<◌, ◌≤◌, cond, List, [], ◌∷◌, length, refl, sym, ◌∙◌, ap, subst, arith, inl, inr, Option, Some, None}
use Rattle.std.specs.Prelude.{IfSome, All, get_or}
use Rattle.std.proofs.lemmas.Bool.{cases_eq, eq-eqb, ne_eqb}
use Rattle.std.proofs.lemmas.Option.{slice_get-get_or}
use Rattle.std.proofs.lemmas.List.Elements.{All-head, All-tail}
use Rattle.mcode.specs.Instr.{target_of}
use Rattle.mcode.specs.Program.{Program, Frame, IsFrame, frame_at, place_number, most_parts}
use Rattle.mcode.proofs.BodyLemmas.{alone_main}
use Rattle.mspec_syntax.specs.Sound.{IsSoundClause}
use Rattle.mspec_syntax.specs.Specification.{Specification, specification_variables, specification_nodes, IsWithinLimits, most_nodes}
use Rattle.verifier_types.specs.Fit.{IsTarget, IsFrameFit, most_places}
use Rattle.verifier_types.specs.Shape.{Shape}
use Rattle.verifier.specs.Typing.{IsPlain, IsTyped, IsDepth}
use Rattle.verifier.proofs.PlainLemmas.{plain_typed}
use Rattle.compiler_assembly.specs.Assembled.{assembled, frame_of, IsTargetInRange, IsCode}
use Rattle.compiler_assembly.specs.Labels.{AllLabels, AllBlockLabels}
use Rattle.compiler_assembly.specs.Line.{SourceLabel, SourceLine, Block, line_total}
use Rattle.compiler_assembly.specs.declared.line.Label.TheVariants.{Inside, Clean}
use Rattle.compiler_assembly.proofs.StandLemmas.{assembled_stands, assembled_alone, all_plain, frames_all, frames_rise, frame_count, instruction_count, constant_count}
use Rattle.compiler_clauses.specs.Clauses.{blocks_of, code_of}
use Rattle.compiler_clauses.proofs.CountLemmas.{code_size}
use Rattle.compiler_clauses.proofs.LabelLemmas.{labels_are_frames, labels_fit, labels_inside}
use Rattle.compiler_clauses.proofs.VariableLemmas.{variables_inside}
use Rattle.compiler.specs.Typing.{CodeIsTyped}
use Rattle.compiler.proofs.ProgramFlow.{FlowsOut, blocks_flow, shapes, is_plain, depth_within}

-- ---- what holds at each label

module _ (P Q R : List ℕ → ℕ → SourceLabel → Type 0) (both : (s : List ℕ) (n : ℕ) (l : SourceLabel) → P s n l → Q s n l → R s n l) where
  labels_both : (s : List ℕ) (pc : ℕ) (ls : List SourceLine) → AllLabels P s pc ls → AllLabels Q s pc ls → AllLabels R s pc ls
  labels_both s pc [] h k = tt
  labels_both s pc (l ∷ ls) h k = (one l.label h.0 k.0, labels_both s (suc pc) ls h.1 k.1)
    where
      one : (o : Option SourceLabel) → IfSome o (P s (suc pc)) → IfSome o (Q s (suc pc)) → IfSome o (R s (suc pc))
      one None h k = tt
      one (Some l) h k = both s (suc pc) l h k

  block_labels_both : (pc : ℕ) (bs : List Block) → AllBlockLabels P pc bs → AllBlockLabels Q pc bs → AllBlockLabels R pc bs
  block_labels_both pc [] h k = tt
  block_labels_both pc (b ∷ bs) h k = (labels_both b.slots pc b.lines h.0 k.0, block_labels_both (pc + length b.lines) bs h.1 k.1)

frame_pc : (s : List ℕ) (n : ℕ) (l : SourceLabel) → (frame_of s n l).pc ≡ n
frame_pc s n (Inside depth integers) = refl
frame_pc s n Clean = refl

-- a frame that is found is one of the frames
pub found_frame : (P : Frame → Type 0) (fs : List Frame) (n : ℕ) (f : Frame) → All P fs → frame_at fs n ≡ Some f → P f × (f.pc ≡ n)
found_frame P [] n f h e = absurd (cc)
found_frame P (g ∷ fs) n f h e =
    elim (cases_eq g.pc n) [
      | inl z ↦
          let here : Some g ≡ Some f = sym (ap (λ b. cond b (Some g) (frame_at fs n)) (eq-eqb g.pc n z)) ∙ e in
          let same : g ≡ f = cc in
          (subst P same (All-head P g fs h), ap (λ x. x.pc) (sym same) ∙ z)
      | inr z ↦ found_frame P fs n f (All-tail P g fs h) (sym (ap (λ b. cond b (Some g) (frame_at fs n)) (ne_eqb g.pc n z)) ∙ e)
    ]

assembled_slots : (n : ℕ) (bs : List Block) → (assembled n bs).slots ≡ n
unfolding assembled
assembled_slots n bs = refl

module _ (spec : Specification) (sound : All IsSoundClause spec) (limits : IsWithinLimits spec) where
  abbrev vs : List ℕ
  vs = specification_variables spec

  abbrev blocks : List Block
  blocks = blocks_of vs spec

  abbrev p : Program
  p = assembled (length vs) blocks

  abbrev Fitting : List ℕ → ℕ → SourceLabel → Type 0
  Fitting s n l = (0 < n) × ((frame_of s n l).depth ≤ most_nodes) × All (λ place. place_number place < (frame_of s n l).depth) (frame_of s n l).places × All (λ slot. slot < length vs) (frame_of s n l).slots

  abbrev Within : List ℕ → ℕ → SourceLabel → Type 0
  Within s n l = n < line_total blocks

  frames_fit : All (IsFrameFit p) p.frames
  frames_fit =
      let slots = assembled_slots (length vs) blocks in
      let count = instruction_count (length vs) blocks in
      frames_all (IsFrameFit p) (length vs) blocks
      (block_labels_both Fitting Within (λ s n l. IsFrameFit p (frame_of s n l))
      (λ s n l fit inside.
      let pc = frame_pc s n l in
      record {
        later = omega (arith, fit.0, pc);
        inside = omega (arith, inside, pc, count);
        depth = omega (arith, fit.1);
        places = fit.2;
        slots = subst (λ k. All (λ slot. slot < k) (frame_of s n l).slots) (sym slots) fit.3;
      })
      0 blocks (labels_fit most_nodes spec limits.nodes) (labels_inside spec))

  frames_inside : (n : ℕ) (f : Frame) → frame_at p.frames n ≡ Some f → n < length p.instructions
  frames_inside n f e =
      let found = found_frame (IsFrameFit p) p.frames n f frames_fit e in
      omega (arith, found.0.inside, found.1)

  main : p.around.number ≡ 0
  main = alone_main p (assembled_alone (length vs) blocks)

  plain : (shapes : ℕ → Shape) × IsPlain p shapes
  plain =
      let stands = assembled_stands (length vs) blocks in
      let slots = assembled_slots (length vs) blocks in
      let out = blocks_flow p most_nodes vs slots frames_inside spec 0 sound (variables_inside spec) limits.nodes stands.0 in
      let count = instruction_count (length vs) blocks in
      let out' = subst (FlowsOut p most_nodes 0) (sym count) out in
      let few : most_nodes ≤ most_places = omega arith in
      let stay = all_plain (length vs) blocks in
      let size = code_size spec sound vs in (
        shapes p most_nodes few main stay stands.1 out',
        is_plain p most_nodes few main stay stands.1 out' (assembled_alone (length vs) blocks) (omega (arith, size, count, limits.nodes)) frames_fit,
      )

  is_typed : IsTyped p
  is_typed = plain_typed p plain.0 plain.1

  in_range : All IsTargetInRange p.instructions
  in_range = λ k d less.
      let i = get_or p.instructions k d in
      let there = slice_get-get_or p.instructions k d less in
      let typed = plain.1.typed k i there in
      let size = code_size spec sound vs in
      let count = instruction_count (length vs) blocks in
      below (target_of i) k typed.target (omega (arith, size, count, limits.nodes))
    where
      below : (o : Option ℕ) (k : ℕ) → IfSome o (λ t. IsTarget p k t) → length p.instructions ≤ most_parts → IfSome o (λ t. t ≤ most_parts)
      below None k h few = tt
      below (Some t) k h few = omega (arith, h.inside, few)

  is_code : IsCode p
  is_code =
      let size = code_size spec sound vs in
      let slots = assembled_slots (length vs) blocks in
      let labels = labels_are_frames most_nodes spec (omega arith) limits.nodes in
      record {
        program = record {
          slots = omega (arith, limits.variables, slots);
          constants = omega (arith, size, limits.nodes, constant_count (length vs) blocks);
          instructions = omega (arith, size, limits.nodes, instruction_count (length vs) blocks);
          frame_count = omega (arith, size, limits.nodes, frame_count (length vs) blocks);
          frames = record { each = frames_all IsFrame (length vs) blocks labels; rise = frames_rise (length vs) blocks };
        };
        targets = in_range;
      }

pub code_is_typed : CodeIsTyped
unfolding code_of
code_is_typed spec sound limits = record { code = is_code spec sound limits; typed = is_typed spec sound limits }

-- ---- how deep the stack is

framed : (P : Frame → Type 0) (fs : List Frame) (n : ℕ) → All P fs → IfSome (frame_at fs n) P
framed P fs n h = found (frame_at fs n) refl
  where
    found : (o : Option Frame) → frame_at fs n ≡ o → IfSome o P
    found None e = tt
    found (Some f) e = (found_frame P fs n f h e).0

-- the stack is never deeper than there are nodes
pub depth_within_nodes : (spec : Specification) → All IsSoundClause spec → IsWithinLimits spec → (depth : ℕ) → IsDepth (code_of spec) depth → depth ≤ specification_nodes spec
unfolding code_of
depth_within_nodes spec sound limits depth d =
    let most = specification_nodes spec in
    let names = specification_variables spec in
    let code = code_of spec in
    let stands = assembled_stands (length names) (blocks_of names spec) in
    let slots = assembled_slots (length names) (blocks_of names spec) in
    let count = instruction_count (length names) (blocks_of names spec) in
    let out = blocks_flow code most names slots (frames_inside spec sound limits) spec 0 sound (variables_inside spec) (omega arith) stands.0 in
    let out' = subst (FlowsOut code most 0) (sym count) out in
    let few : most ≤ most_places = omega (arith, limits.nodes) in
    let IsLow : Frame → Type 0 = λ f. f.depth ≤ most in
    let Fitting : List ℕ → ℕ → SourceLabel → Type 0 = λ s n l. (0 < n) × ((frame_of s n l).depth ≤ most) × All (λ place. place_number place < (frame_of s n l).depth) (frame_of s n l).places × All (λ slot. slot < length names) (frame_of s n l).slots in
    let labels = labels_fit most spec (omega arith) in
    let low = frames_all IsLow (length names) (blocks_of names spec) (block_labels_both Fitting Fitting (λ s n l. IsLow (frame_of s n l)) (λ s n l fit again. fit.1) 0 (blocks_of names spec) labels labels) in
    depth_within code most few (main spec sound limits) (all_plain (length names) (blocks_of names spec)) stands.1 out' (λ n. framed IsLow code.frames n low) (frames_fit spec sound limits) depth d
