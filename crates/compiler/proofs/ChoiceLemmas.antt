-- Arguments of andalso and orelse.
use Rattle.std.proofs.Common.{◌≡◌, ℕ, suc, ◌+◌, Bool, true, false, List, [], ◌∷◌, length, refl, sym, ap, subst, arith, Option, Some, None}
use Rattle.term_core.specs.Datum.{Datum}
use Rattle.term_operand.specs.Operand.{boolean, boolean_of}
use Rattle.mcode.specs.Machine.{Bindings, jump}
use Rattle.mcode.specs.Machine.Outcome.{Goes}
use Rattle.mcode.specs.Program.{Program, Frame, frame_at}
use Rattle.mcode.specs.declared.kind.Kind.{Kind}
use Rattle.mspec_syntax.specs.declared.mode.Mode.{Mode}
use Rattle.mspec_syntax.specs.declared.mode.Mode.TheVariants.{Condition, Body}
use Rattle.mspec_match.specs.Failure.{failed}
use Rattle.mspec_meaning.specs.Decided.{and_at, and_step, or_at, or_step}
use Rattle.compiler_assembly.specs.Line.{plain, before_label}
use Rattle.compiler_assembly.specs.Assembled.{resolved}
use Rattle.compiler_assembly.specs.Stands.{IsAt, Stands}
use Rattle.compiler_assembly.specs.declared.op.Op.TheVariants as op
use Rattle.compiler_assembly.specs.declared.op.Target.TheVariants.{Ahead}
use Rattle.compiler_expressions.specs.Expressions.{failure, exit_lines, all_true_lines, none_true_lines}
use Rattle.compiler.specs.Reach.{at, Comes, Lands}
use Rattle.compiler.proofs.FailLemmas.{IsSite, after, label_lands, end_lands, fails, succeeds}
use Rattle.compiler.proofs.PushLemmas.{const_runs}
use Rattle.compiler.proofs.ReachLemmas.{comes_by, comes_then, comes_same, comes_landing}

-- the frame of a label inside lines
abbrev pub inside_frame : ℕ → ℕ → List (ℕ × Kind) → List ℕ → Frame
inside_frame pc deep integers frame_slots = record { pc = pc; depth = deep; places = integers; slots = frame_slots }

module _ (p : Program) (o : Datum) (frame_slots : List ℕ) (behind : ℕ) (site : IsSite p behind) (slots : Bindings) (deep : ℕ) (integers : List (ℕ × Kind)) (base : List Datum) (count : length base ≡ deep) where
  -- a jump over lines with a value on the top
  jumps_over : (pc n r : ℕ) (d : Datum) (i : IsAt p frame_slots behind pc (before_label (op.Jump (Ahead n)) deep integers)) → frame_at p.frames r ≡ Some (inside_frame r (suc deep) integers frame_slots) → suc pc + n ≡ r → Comes p o (at pc (d ∷ base) slots) (at r (d ∷ base) slots)
  jumps_over pc n r d i framed far =
      let more : length (d ∷ base) ≡ suc deep = omega (arith, count) in
      let lands = subst (λ t. jump p t (d ∷ base) slots ≡ Goes (at r (d ∷ base) slots)) (sym far) (label_lands p o frame_slots behind site slots r (suc deep) integers [] (d ∷ base) framed more) in
      comes_by p o (at pc (d ∷ base) slots) (at r (d ∷ base) slots) _ i.instruction lands

  -- andalso is true after its last argument
  true_end : (mode : Mode) (e r : ℕ) → Stands p frame_slots behind e (all_true_lines mode deep integers) → e + length (all_true_lines mode deep integers) ≡ r → Comes p o (at e base slots) (at r (boolean true ∷ base) slots)
  true_end Condition e r h end =
      let there : suc (suc e) + 1 ≡ r = omega (arith, end) in
      let last : suc (suc (suc e)) ≡ r = omega (arith, end) in
      let framed = subst (λ n. frame_at p.frames n ≡ Some (inside_frame n (suc deep) integers frame_slots)) last h.1.1.0.frame in
      comes_then p o (at e base slots) (at (suc e) (boolean true ∷ base) slots) _ (const_runs p o frame_slots behind slots e base (boolean true) h.0)
      (jumps_over (suc e) 1 r (boolean true) h.1.0 framed there)
  true_end Body e r h end =
      let there : suc (suc e) + 3 ≡ r = omega (arith, end) in
      let last : suc (suc (suc (suc (suc e)))) ≡ r = omega (arith, end) in
      let framed = subst (λ n. frame_at p.frames n ≡ Some (inside_frame n (suc deep) integers frame_slots)) last h.1.1.1.1.0.frame in
      comes_then p o (at e base slots) (at (suc e) (boolean true ∷ base) slots) _ (const_runs p o frame_slots behind slots e base (boolean true) h.0)
      (jumps_over (suc e) 3 r (boolean true) h.1.0 framed there)

  -- andalso is false if a jump leads to the constant after it
  false_end : (mode : Mode) (e r : ℕ) → Stands p frame_slots behind e (all_true_lines mode deep integers) → e + length (all_true_lines mode deep integers) ≡ r → Comes p o (at (suc (suc e)) base slots) (at r (boolean false ∷ base) slots)
  false_end Condition e r h end =
      let there : suc (suc (suc e)) ≡ r = omega (arith, end) in
      comes_same p o (at (suc (suc e)) base slots) _ _ (ap (λ n. at n (boolean false ∷ base) slots) there)
      (const_before (suc (suc e)) (boolean false) (suc deep) h.1.1.0)
    where
      const_before : (pc : ℕ) (d : Datum) (n : ℕ) → IsAt p frame_slots behind pc (before_label (op.Const d) n integers) → Comes p o (at pc base slots) (at (suc pc) (d ∷ base) slots)
      const_before pc d n h = comes_by p o (at pc base slots) (at (suc pc) (d ∷ base) slots) _ h.instruction (rw h.constant refl)
  false_end Body e r h end =
      let there : suc (suc (suc e)) + length (exit_lines Body deep integers) ≡ r = omega (arith, end) in
      comes_same p o (at (suc (suc e)) base slots) _ _ (ap (λ n. at n (boolean false ∷ base) slots) there)
      (comes_then p o (at (suc (suc e)) base slots) (at (suc (suc (suc e))) (boolean false ∷ base) slots) _
      (const_runs p o frame_slots behind slots (suc (suc e)) base (boolean false) h.1.1.0)
      (succeeds p o frame_slots behind site slots Body deep integers (suc (suc (suc e))) base (boolean false) h.1.1.1 count))

  -- the label of the constant false has its frame
  false_framed : (mode : Mode) (e : ℕ) → Stands p frame_slots behind e (all_true_lines mode deep integers) → frame_at p.frames (suc (suc e)) ≡ Some (inside_frame (suc (suc e)) deep integers frame_slots)
  false_framed Condition e h = h.1.0.frame
  false_framed Body e h = h.1.0.frame

  -- an argument of andalso that is no truth value fails past all lines
  and_fails : (mode : Mode) (q n e r : ℕ) (d : Datum) → Stands p frame_slots behind e (all_true_lines mode deep integers) → e + length (all_true_lines mode deep integers) ≡ r → suc (suc q) + n ≡ e → Lands p o (jump p (resolved behind q (failure mode (n + 5))) (d ∷ base) slots) (after behind r base slots (failed mode))
  and_fails Condition q n e r d h end far = (at behind [] slots, end_lands p o frame_slots behind site slots (d ∷ base), (0, refl))
  and_fails Body q n e r d h end far =
      let x : suc q + (n + 5) ≡ suc (suc (suc (suc e))) = omega (arith, far) in
      let there : suc (suc (suc e)) + length (exit_lines Body deep integers) ≡ r = omega (arith, end) in
      subst (λ m. Lands p o (jump p (resolved behind q (failure Body (n + 5))) (d ∷ base) slots) (after behind m base slots (failed Body))) there
      (fails p o frame_slots behind site slots Body deep integers q (suc (suc (suc e))) (n + 5) (d ∷ []) base h.1.1.1 x count)

  -- one argument of andalso, given the run of the others
  pub and_run : (mode : Mode) (a rest : Option Datum) (pc q n e r : ℕ) → Comes p o (at pc base slots) (after behind q base slots a) → IsAt p frame_slots behind q (plain (op.Bool (failure mode (n + 5)))) → IsAt p frame_slots behind (suc q) (plain (op.Branch (Ahead (n + 2)))) → suc (suc q) + n ≡ e → Stands p frame_slots behind e (all_true_lines mode deep integers) → e + length (all_true_lines mode deep integers) ≡ r → Comes p o (at (suc (suc q)) base slots) (after behind r base slots rest) → Comes p o (at pc base slots) (after behind r base slots (and_step mode a rest))
  and_run mode None rest pc q n e r first i1 i2 far h end others = first
  and_run mode (Some d) rest pc q n e r first i1 i2 far h end others =
      comes_then p o (at pc base slots) (at q (d ∷ base) slots) _ first (by (boolean_of d) refl)
    where
      by : (b : Option Bool) → boolean_of d ≡ b → Comes p o (at q (d ∷ base) slots) (after behind r base slots (and_at mode b rest))
      by None is =
          comes_landing p o (at q (d ∷ base) slots) _ _ i1.instruction (rw is (and_fails mode q n e r d h end far))
      by (Some true) is =
          comes_then p o (at q (d ∷ base) slots) (at (suc q) (d ∷ base) slots) _
          (comes_by p o (at q (d ∷ base) slots) (at (suc q) (d ∷ base) slots) _ i1.instruction (rw is refl))
          (comes_then p o (at (suc q) (d ∷ base) slots) (at (suc (suc q)) base slots) _
          (comes_by p o (at (suc q) (d ∷ base) slots) (at (suc (suc q)) base slots) _ i2.instruction (rw is refl)) others)
      by (Some false) is =
          let target : suc (suc q) + (n + 2) ≡ suc (suc e) = omega (arith, far) in
          let lands = subst (λ t. jump p t base slots ≡ Goes (at (suc (suc e)) base slots)) (sym target)
          (label_lands p o frame_slots behind site slots (suc (suc e)) deep integers [] base (false_framed mode e h) count) in
          comes_then p o (at q (d ∷ base) slots) (at (suc q) (d ∷ base) slots) _
          (comes_by p o (at q (d ∷ base) slots) (at (suc q) (d ∷ base) slots) _ i1.instruction (rw is refl))
          (comes_then p o (at (suc q) (d ∷ base) slots) (at (suc (suc e)) base slots) _
          (comes_by p o (at (suc q) (d ∷ base) slots) (at (suc (suc e)) base slots) _ i2.instruction (rw is lands))
          (false_end mode e r h end))

  -- andalso without further arguments
  pub all_true_run : (mode : Mode) (e r : ℕ) → Stands p frame_slots behind e (all_true_lines mode deep integers) → e + length (all_true_lines mode deep integers) ≡ r → Comes p o (at e base slots) (after behind r base slots (Some (boolean true)))
  all_true_run mode e r h end = true_end mode e r h end

  -- orelse without further arguments
  pub none_true_run : (mode : Mode) (c : ℕ) → Stands p frame_slots behind c (none_true_lines mode deep integers) → Comes p o (at c base slots) (after behind (c + length (none_true_lines mode deep integers)) base slots (Some (boolean false)))
  none_true_run Condition c h =
      let there : suc c ≡ c + 1 = omega arith in
      comes_same p o (at c base slots) _ _ (ap (λ n. at n (boolean false ∷ base) slots) there)
      (comes_by p o (at c base slots) (at (suc c) (boolean false ∷ base) slots) _ h.0.instruction (rw h.0.constant refl))
  none_true_run Body c h =
      let there : suc c + length (exit_lines Body deep integers) ≡ c + 3 = omega arith in
      comes_same p o (at c base slots) _ _ (ap (λ n. at n (boolean false ∷ base) slots) there)
      (comes_then p o (at c base slots) (at (suc c) (boolean false ∷ base) slots) _
      (const_runs p o frame_slots behind slots c base (boolean false) h.0)
      (succeeds p o frame_slots behind site slots Body deep integers (suc c) base (boolean false) h.1 count))

  -- an argument of orelse that is no truth value fails past all lines
  or_fails : (mode : Mode) (q n x r : ℕ) (d : Datum) → Stands p frame_slots behind x (exit_lines mode deep integers) → suc (suc x) ≡ r → suc (suc (suc (suc q))) + n ≡ r → Lands p o (jump p (resolved behind q (failure mode (n + 2))) (d ∷ base) slots) (after behind r base slots (failed mode))
  or_fails Condition q n x r d h end far = (at behind [] slots, end_lands p o frame_slots behind site slots (d ∷ base), (0, refl))
  or_fails Body q n x r d h end far =
      let x' : suc q + (n + 2) ≡ suc x = omega (arith, far, end) in
      let there : x + length (exit_lines Body deep integers) ≡ r = omega (arith, end) in
      subst (λ m. Lands p o (jump p (resolved behind q (failure Body (n + 2))) (d ∷ base) slots) (after behind m base slots (failed Body))) there
      (fails p o frame_slots behind site slots Body deep integers q x (n + 2) (d ∷ []) base h x' count)

  -- one argument of orelse, given the run of the others
  pub or_run : (mode : Mode) (a rest : Option Datum) (pc q n x r : ℕ) → Comes p o (at pc base slots) (after behind q base slots a) → IsAt p frame_slots behind q (plain (op.Bool (failure mode (n + 2)))) → IsAt p frame_slots behind (suc q) (plain (op.Branch (Ahead 2))) → IsAt p frame_slots behind (suc (suc q)) (plain (op.Const (boolean true))) → IsAt p frame_slots behind (suc (suc (suc q))) (before_label (op.Jump (Ahead n)) deep integers) → Stands p frame_slots behind x (exit_lines mode deep integers) → suc (suc x) ≡ r → suc (suc (suc (suc q))) + n ≡ r → frame_at p.frames r ≡ Some (inside_frame r (suc deep) integers frame_slots) → Comes p o (at (suc (suc (suc (suc q)))) base slots) (after behind r base slots rest) → Comes p o (at pc base slots) (after behind r base slots (or_step mode a rest))
  or_run mode None rest pc q n x r first i1 i2 i3 i4 h end far framed others = first
  or_run mode (Some d) rest pc q n x r first i1 i2 i3 i4 h end far framed others =
      comes_then p o (at pc base slots) (at q (d ∷ base) slots) _ first (by (boolean_of d) refl)
    where
      by : (b : Option Bool) → boolean_of d ≡ b → Comes p o (at q (d ∷ base) slots) (after behind r base slots (or_at mode b rest))
      by None is =
          comes_landing p o (at q (d ∷ base) slots) _ _ i1.instruction (rw is (or_fails mode q n x r d h end far))
      by (Some true) is =
          comes_then p o (at q (d ∷ base) slots) (at (suc q) (d ∷ base) slots) _
          (comes_by p o (at q (d ∷ base) slots) (at (suc q) (d ∷ base) slots) _ i1.instruction (rw is refl))
          (comes_then p o (at (suc q) (d ∷ base) slots) (at (suc (suc q)) base slots) _
          (comes_by p o (at (suc q) (d ∷ base) slots) (at (suc (suc q)) base slots) _ i2.instruction (rw is refl))
          (comes_then p o (at (suc (suc q)) base slots) (at (suc (suc (suc q))) (boolean true ∷ base) slots) _
          (const_runs p o frame_slots behind slots (suc (suc q)) base (boolean true) i3)
          (jumps_over (suc (suc (suc q))) n r (boolean true) i4 framed far)))
      by (Some false) is =
          let target : suc (suc q) + 2 ≡ suc (suc (suc (suc q))) = omega arith in
          let lands = subst (λ t. jump p t base slots ≡ Goes (at (suc (suc (suc (suc q)))) base slots)) (sym target)
          (label_lands p o frame_slots behind site slots (suc (suc (suc (suc q)))) deep integers [] base i4.frame count) in
          comes_then p o (at q (d ∷ base) slots) (at (suc q) (d ∷ base) slots) _
          (comes_by p o (at q (d ∷ base) slots) (at (suc q) (d ∷ base) slots) _ i1.instruction (rw is refl))
          (comes_then p o (at (suc q) (d ∷ base) slots) (at (suc (suc (suc (suc q)))) base slots) _
          (comes_by p o (at (suc q) (d ∷ base) slots) (at (suc (suc (suc (suc q)))) base slots) _ i2.instruction (rw is lands)) others)
