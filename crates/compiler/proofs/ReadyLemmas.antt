-- Lines that are typed, one by one.
use Rattle.std.proofs.Common.{◌≡◌, ℕ, suc, ◌+◌, ◌-◌, ◌<◌, ◌≤◌, Bool, false, List, [], ◌∷◌, ◌++◌, length, drop, replicate, slice_get, refl, sym, ◌∙◌, subst, arith, Some, None}
use Rattle.std.specs.Prelude.{IsTrue, IfSome, All}
use Rattle.std.proofs.Math.Seq.{drop-append_seam}
use Rattle.std.proofs.lemmas.List.{length-append, length-replicate}
use Rattle.std.proofs.lemmas.List.Elements.{All-nil}
use Rattle.mcode.specs.Program.{Program, Frame, frame_at}
use Rattle.mcode.specs.declared.instr.Instr.{Instr}
use Rattle.mcode.specs.declared.kind.Kind.{Kind}
use Rattle.mspec_syntax.specs.declared.mode.Mode.{Mode}
use Rattle.mspec_syntax.specs.declared.mode.Mode.TheVariants.{Condition, Body}
use Rattle.verifier_types.specs.Effect.{falling_shape, left_shape}
use Rattle.verifier_types.specs.Shape.{Shape, frame_kinds, shape_of, is_bound, AreBelow, IsCutBelow}
use Rattle.verifier_types.specs.Fit.{IsTarget}
use Rattle.compiler_assembly.specs.Assembled.{resolved}
use Rattle.compiler_assembly.specs.Line.{SourceLine}
use Rattle.compiler_assembly.specs.Stands.{Stands}
use Rattle.compiler_expressions.specs.Expressions.{failure, exit_lines}
use Rattle.compiler.specs.Flow.{IsFit, Flows}
use Rattle.compiler.specs.Ready.{IsBlock, IsReady, Steps, FlowsTo}
use Rattle.compiler.proofs.FlowLemmas.{flows_then, all_below_itself, below_length, frame_length, marked_length, marks_bound}

abbrev pub label_frame : ℕ → ℕ → List (ℕ × Kind) → List ℕ → Frame
label_frame pc deep integers frame_slots = record { pc = pc; depth = deep; places = integers; slots = frame_slots }

module _ (p : Program) (most : ℕ) (frame_slots : List ℕ) (behind : ℕ) (block : IsBlock p frame_slots behind) where
  -- one line before others
  pub line_then : (pc : ℕ) (l : SourceLine) (ls : List SourceLine) (s t : Shape) (deep : ℕ) (integers : List (ℕ × Kind)) → Steps p most pc s t → FlowsTo p most frame_slots (suc pc) ls t deep integers → FlowsTo p most frame_slots pc (l ∷ ls) s deep integers
  line_then pc l ls s t deep integers step rest = record { state = rest.state; flows = (step.0, step.1, step.2, (t, step.3, rest.flows)); ready = rest.ready }

  pub no_lines : (pc : ℕ) (s : Shape) (deep : ℕ) (integers : List (ℕ × Kind)) → IsReady p frame_slots s deep integers → FlowsTo p most frame_slots pc [] s deep integers
  no_lines pc s deep integers ready = record { state = s; flows = refl; ready = ready }

  -- lines before others
  pub lines_then : (pc : ℕ) (a b : List SourceLine) (s : Shape) (deep deep' : ℕ) (integers integers' : List (ℕ × Kind)) → FlowsTo p most frame_slots pc a s deep integers → ((t : Shape) → IsReady p frame_slots t deep integers → FlowsTo p most frame_slots (pc + length a) b t deep' integers') → FlowsTo p most frame_slots pc (a ++ b) s deep' integers'
  lines_then pc a b s deep deep' integers integers' first rest =
      let others = rest first.state first.ready in
      let count : length a + length b ≡ length (a ++ b) = sym (length-append a b) in
      record {
        state = others.state;
        flows = subst (λ n. Flows p most pc s n others.state) count (flows_then p most (length a) (length b) pc s first.state others.state first.flows others.flows);
        ready = others.ready;
      }

  -- a state that is as a label says is ready
  pub label_ready : (pc deep : ℕ) (integers : List (ℕ × Kind)) → IsReady p frame_slots (shape_of p (label_frame pc deep integers frame_slots)) deep integers
  label_ready pc deep integers =
      let none : length (replicate p.slots false) ≡ p.slots = length-replicate p.slots false in
      record {
        kinds = all_below_itself (frame_kinds integers deep);
        count = marked_length (replicate p.slots false) frame_slots ∙ none;
        bound = marks_bound (replicate p.slots false) frame_slots (subst (λ n. All (λ slot. slot < n) frame_slots) (sym none) block.slots);
      }

  -- an instruction without a label after it
  pub plain_step : (pc : ℕ) (i : Instr) (s : Shape) → slice_get p.instructions pc ≡ Some i → frame_at p.frames (suc pc) ≡ None → falling_shape p i s ≡ Some (left_shape p i s) → IsFit p most pc i s → Steps p most pc s (left_shape p i s)
  plain_step pc i s h none on fit = (i, h, fit, rw none on)

  -- an instruction with a label after it, which says no more than what is left
  pub label_step : (pc deep : ℕ) (integers : List (ℕ × Kind)) (i : Instr) (s : Shape) → slice_get p.instructions pc ≡ Some i → frame_at p.frames (suc pc) ≡ Some (label_frame (suc pc) deep integers frame_slots) → falling_shape p i s ≡ Some (left_shape p i s) → IsFit p most pc i s → IsReady p frame_slots (left_shape p i s) deep integers → Steps p most pc s (shape_of p (label_frame (suc pc) deep integers frame_slots))
  label_step pc deep integers i s h framed on fit ready =
      (i, h, fit, rw framed (refl, rw on (record { kinds = ready.kinds; bound = ready.bound })))

  -- an instruction that doesn't continue with the next one
  pub last_step : (pc deep : ℕ) (integers : List (ℕ × Kind)) (i : Instr) (s : Shape) → slice_get p.instructions pc ≡ Some i → frame_at p.frames (suc pc) ≡ Some (label_frame (suc pc) deep integers frame_slots) → falling_shape p i s ≡ None → IsFit p most pc i s → Steps p most pc s (shape_of p (label_frame (suc pc) deep integers frame_slots))
  last_step pc deep integers i s h framed off fit = (i, h, fit, rw framed (refl, rw off tt))

  -- ---- jumps

  -- a jump to a label inside the block fits from a state whose lowest places are those of the label
  pub label_fits : (pc target deep : ℕ) (integers : List (ℕ × Kind)) (above base : List Kind) (bs : List Bool) → frame_at p.frames target ≡ Some (label_frame target deep integers frame_slots) → pc < target → AreBelow base (frame_kinds integers deep) → All (λ slot. IsTrue (is_bound bs slot)) frame_slots → IsTarget p pc target × IfSome (frame_at p.frames target) (λ f. IsCutBelow (record { kinds = above ++ base; bound = bs }) f)
  label_fits pc target deep integers above base bs framed ahead below bound =
      let count : length base ≡ deep = below_length base (frame_kinds integers deep) below ∙ frame_length integers deep in
      let rest : length (above ++ base) - deep ≡ length above = omega (arith, length-append above base, count) in
      let many : deep ≤ length (above ++ base) = omega (arith, length-append above base, count) in (
        record { inside = block.inside target (label_frame target deep integers frame_slots) framed; ahead = ahead; framed = rw framed refl },
        rw framed
            (record {
              deep = many;
              below = record { kinds = rw rest (rw (drop-append_seam above base) below); bound = bound };
            }),
      )

  -- a jump past the block fits
  pub end_fits : (pc : ℕ) (ks : List Kind) (bs : List Bool) → pc < behind → IsTarget p pc behind × IfSome (frame_at p.frames behind) (λ f. IsCutBelow (record { kinds = ks; bound = bs }) f)
  end_fits pc ks bs ahead =
      let rest : length ks - 0 ≡ length ks = omega arith in (
        record { inside = block.inside behind (record { pc = behind; depth = 0; places = []; slots = [] }) block.framed; ahead = ahead; framed = rw block.framed refl },
        rw block.framed
            (record {
              deep = omega arith;
              below = record { kinds = rw rest (none_left ks); bound = All-nil (λ slot. IsTrue (is_bound bs slot)) };
            }),
      )
    where
      none_left : (ks : List Kind) → AreBelow (drop (length ks) ks) []
      none_left [] = tt
      none_left (k ∷ ks) = none_left ks

  -- a jump to where an instruction of an expression fails, fits
  pub fail_fits : (mode : Mode) (deep : ℕ) (integers : List (ℕ × Kind)) (q e n : ℕ) (above base : List Kind) (bs : List Bool) → Stands p frame_slots behind e (exit_lines mode deep integers) → suc q + n ≡ suc e → q < behind → AreBelow base (frame_kinds integers deep) → All (λ slot. IsTrue (is_bound bs slot)) frame_slots → IsTarget p q (resolved behind q (failure mode n)) × IfSome (frame_at p.frames (resolved behind q (failure mode n))) (λ f. IsCutBelow (record { kinds = above ++ base; bound = bs }) f)
  fail_fits Condition deep integers q e n above base bs stands far within below bound = end_fits q (above ++ base) bs within
  fail_fits Body deep integers q e n above base bs stands far within below bound =
      let ahead : q < suc e = omega (arith, far) in
      subst (λ t. IsTarget p q t × IfSome (frame_at p.frames t) (λ f. IsCutBelow (record { kinds = above ++ base; bound = bs }) f)) (sym far)
      (label_fits q (suc e) deep integers above base bs stands.0.frame ahead below bound)
