-- What follows if an instruction of an expression fails, or if the last of its lines produces a value.
use Rattle.std.proofs.Common.{◌≡◌, ℕ, suc, ◌+◌, ◌<◌, List, [], ◌∷◌, ◌++◌, length, refl, sym, ap, subst, arith, rules, Option, Some, None}
use Rattle.term_core.specs.Datum.{Datum}
use Rattle.mcode.specs.Machine.{Bindings, State, jump, push_or_jump}
use Rattle.mcode.specs.Machine.Outcome.{Goes}
use Rattle.mcode.specs.Program.{Program, Frame, frame_at}
use Rattle.mcode.specs.declared.kind.Kind.{Kind}
use Rattle.mspec_syntax.specs.Mode.{exit_term}
use Rattle.mspec_syntax.specs.declared.mode.Mode.{Mode}
use Rattle.mspec_syntax.specs.declared.mode.Mode.TheVariants.{Condition, Body}
use Rattle.mspec_match.specs.Failure.{failed}
use Rattle.mspec_meaning.specs.Made.{or_failed}
use Rattle.compiler_assembly.specs.Assembled.{resolved}
use Rattle.compiler_assembly.specs.Stands.{Stands}
use Rattle.compiler_expressions.specs.Expressions.{failure, exit_lines}
use Rattle.compiler.specs.Reach.{at, Comes, Lands}
use Rattle.compiler.proofs.ReachLemmas.{comes_here, comes_by, comes_same, jump_lands}

-- Code in which each frame is at an instruction, and lines in it after which there is a frame of depth 0, to which they
-- lead if they fail.
pub record IsSite (p : Program) (behind : ℕ) : Type 0 where
  pub inside : (n : ℕ) (g : Frame) → frame_at p.frames n ≡ Some g → n < length p.instructions
  pub exit : Frame
  pub framed : frame_at p.frames behind ≡ Some exit
  pub clean : exit.depth ≡ 0

-- the state of a run after an expression's lines, or if the expression has no value
abbrev pub after : ℕ → ℕ → List Datum → Bindings → Option Datum → State
after behind pc base slots None = at behind [] slots
after behind pc base slots (Some d) = at pc (d ∷ base) slots

module _ (p : Program) (o : Datum) (frame_slots : List ℕ) (behind : ℕ) (site : IsSite p behind) (slots : Bindings) where
  -- a jump to a label inside lines
  pub label_lands : (target depth : ℕ) (integers : List (ℕ × Kind)) (above base : List Datum) → frame_at p.frames target ≡ Some (record { pc = target; depth = depth; places = integers; slots = frame_slots }) → length base ≡ depth → jump p target (above ++ base) slots ≡ Goes (at target base slots)
  label_lands target depth integers above base framed deep =
      jump_lands p target (record { pc = target; depth = depth; places = integers; slots = frame_slots }) above base slots site.inside framed (sym deep)

  -- a jump to the clause's end
  pub end_lands : (above : List Datum) → jump p behind above slots ≡ Goes (at behind [] slots)
  end_lands above =
      let all : above ++ [] ≡ above = search rules in
      subst (λ l. jump p behind l slots ≡ Goes (at behind [] slots)) all
      (jump_lands p behind site.exit above [] slots site.inside site.framed site.clean)

  -- an instruction that fails leads n lines ahead, to the 'EXIT' of its expression's last lines
  pub fails : (mode : Mode) (depth : ℕ) (integers : List (ℕ × Kind)) (q e n : ℕ) (above base : List Datum) → Stands p frame_slots behind e (exit_lines mode depth integers) → suc q + n ≡ suc e → length base ≡ depth → Lands p o (jump p (resolved behind q (failure mode n)) (above ++ base) slots) (after behind (e + length (exit_lines mode depth integers)) base slots (failed mode))
  fails Condition depth integers q e n above base stands far deep =
      (at behind [] slots, end_lands (above ++ base), comes_here p o (at behind [] slots))
  fails Body depth integers q e n above base stands far deep =
      let target : suc q + n ≡ suc e = far in
      let lands = subst (λ t. jump p t (above ++ base) slots ≡ Goes (at (suc e) base slots)) (sym target) (label_lands (suc e) depth integers above base stands.0.frame deep) in
      let pushed : Comes p o (at (suc e) base slots) (at (suc (suc e)) (exit_term ∷ base) slots) =
      comes_by p o (at (suc e) base slots) (at (suc (suc e)) (exit_term ∷ base) slots) _ stands.1.0.instruction (rw stands.1.0.constant refl) in
      let there : suc (suc e) ≡ e + 2 = omega arith in
      (at (suc e) base slots, lands, comes_same p o (at (suc e) base slots) _ _ (ap (λ n. at n (exit_term ∷ base) slots) there) pushed)

  -- after the last line that may fail, a value is there
  pub succeeds : (mode : Mode) (depth : ℕ) (integers : List (ℕ × Kind)) (e : ℕ) (base : List Datum) (d : Datum) → Stands p frame_slots behind e (exit_lines mode depth integers) → length base ≡ depth → Comes p o (at e (d ∷ base) slots) (at (e + length (exit_lines mode depth integers)) (d ∷ base) slots)
  succeeds Condition depth integers e base d stands deep =
      let there : e ≡ e + 0 = omega arith in
      comes_same p o (at e (d ∷ base) slots) _ _ (ap (λ n. at n (d ∷ base) slots) there) (comes_here p o (at e (d ∷ base) slots))
  succeeds Body depth integers e base d stands deep =
      let target : suc e + 1 ≡ suc (suc e) = omega arith in
      let count : length (d ∷ base) ≡ suc depth = omega arith in
      let lands = subst (λ t. jump p t (d ∷ base) slots ≡ Goes (at (suc (suc e)) (d ∷ base) slots)) (sym target) (label_lands (suc (suc e)) (suc depth) integers [] (d ∷ base) stands.1.0.frame count) in
      let there : suc (suc e) ≡ e + 2 = omega arith in
      comes_same p o (at e (d ∷ base) slots) _ _ (ap (λ n. at n (d ∷ base) slots) there)
      (comes_by p o (at e (d ∷ base) slots) (at (suc (suc e)) (d ∷ base) slots) _ stands.0.instruction lands)

  -- the last line that may fail produces a value or fails
  pub ends : (mode : Mode) (depth : ℕ) (integers : List (ℕ × Kind)) (q : ℕ) (base : List Datum) (result : Option Datum) → Stands p frame_slots behind (suc q) (exit_lines mode depth integers) → length base ≡ depth → Lands p o (push_or_jump p q (resolved behind q (failure mode 1)) base slots result) (after behind (suc q + length (exit_lines mode depth integers)) base slots (or_failed mode result))
  ends mode depth integers q base None stands deep = fails mode depth integers q (suc q) 1 [] base stands (omega arith) deep
  ends mode depth integers q base (Some d) stands deep =
      (at (suc q) (d ∷ base) slots, refl, succeeds mode depth integers (suc q) base d stands deep)
