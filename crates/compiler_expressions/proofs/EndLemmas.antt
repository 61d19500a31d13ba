-- How expressions' lines end.
use Rattle.std.proofs.Common.{◌≡◌, ℕ, suc, ◌+◌, true, List, ◌∷◌, length, refl, subst, arith, Some}
use Rattle.std.proofs.lemmas.List.{length-append}
use Rattle.term_operand.specs.Operand.{boolean}
use Rattle.mcode.specs.Program.{Program, frame_at}
use Rattle.mcode.specs.declared.kind.Kind.{Kind}
use Rattle.mspec_syntax.specs.Expression.{Expression, Expressions}
use Rattle.mspec_syntax.specs.Expression.Expression.{bound, object, bindings, constant, quoted, call, and_also, or_else, new_tuple, new_cell, new_map}
use Rattle.mspec_syntax.specs.Expression.Expressions.{no_expressions, expression}
use Rattle.mspec_syntax.specs.Mode.{Position}
use Rattle.mspec_syntax.specs.Mode.Position.{by_itself, as_tail}
use Rattle.mspec_syntax.specs.declared.mode.Mode.{Mode}
use Rattle.mspec_syntax.specs.declared.mode.Mode.TheVariants.{Condition, Body}
use Rattle.compiler_assembly.specs.Line.{plain, before_label}
use Rattle.compiler_assembly.specs.Stands.{Stands}
use Rattle.compiler_assembly.specs.declared.op.Op.TheVariants as op
use Rattle.compiler_assembly.specs.declared.op.Target.TheVariants.{Ahead}
use Rattle.compiler_assembly.proofs.StandLemmas.{stands_back}
use Rattle.compiler_expressions.specs.Expressions.{Site, failure, exit_lines, cell_count, none_true_lines, all_true_lines, lines_at, choice_lines}

-- how many elements of the value are separate places on the stack
abbrev pub count_at : Expression → Position → ℕ
count_at (new_cell e f) as_tail = suc (cell_count f)
count_at e position = 0

pub itself : (e : Expression) → count_at e by_itself ≡ 0
itself (new_cell e f) = refl
itself (bound n) = refl
itself object = refl
itself bindings = refl
itself (constant d) = refl
itself (quoted d) = refl
itself (call f es) = refl
itself (and_also es) = refl
itself (or_else es) = refl
itself (new_tuple es) = refl
itself (new_map ms) = refl

pub tail_count : (f : Expression) → count_at f as_tail ≡ cell_count f
tail_count (new_cell e f) = refl
tail_count (bound n) = refl
tail_count object = refl
tail_count bindings = refl
tail_count (constant d) = refl
tail_count (quoted d) = refl
tail_count (call f es) = refl
tail_count (and_also es) = refl
tail_count (or_else es) = refl
tail_count (new_tuple es) = refl
tail_count (new_map ms) = refl

module _ (p : Program) (frame_slots : List ℕ) (behind : ℕ) where
  none_true_exit : (mode : Mode) (c x deep : ℕ) (integers : List (ℕ × Kind)) → Stands p frame_slots behind c (none_true_lines mode deep integers) → suc (suc x) ≡ c + length (none_true_lines mode deep integers) → Stands p frame_slots behind x (exit_lines mode deep integers)
  none_true_exit Condition c x deep integers stands end = tt
  none_true_exit Body c x deep integers stands end =
      let there : suc c ≡ x = omega (arith, end) in
      subst (λ n. Stands p frame_slots behind n (exit_lines Body deep integers)) there stands.1

  -- if an argument of andalso is no truth value in a body, the run continues at the last of its lines
  pub all_true_exit : (mode : Mode) (e deep : ℕ) (integers : List (ℕ × Kind)) → Stands p frame_slots behind e (all_true_lines mode deep integers) → Stands p frame_slots behind (suc (suc (suc e))) (exit_lines mode deep integers)
  all_true_exit Condition e deep integers stands = tt
  all_true_exit Body e deep integers stands = stands.1.1.1

  module _ (w : Site) where
    -- if an argument of orelse is no truth value in a body, the run continues at the last of its lines
    pub choice_exit : (es : Expressions) (c x deep : ℕ) (integers : List (ℕ × Kind)) → Stands p frame_slots behind c (choice_lines w deep integers es) → suc (suc x) ≡ c + length (choice_lines w deep integers es) → Stands p frame_slots behind x (exit_lines w.mode deep integers)
    choice_exit no_expressions c x deep integers stands end = none_true_exit w.mode c x deep integers stands end
    choice_exit (expression e es) c x deep integers stands end =
        let front = lines_at w deep integers e by_itself in
        let rest = choice_lines w deep integers es in
        let lines = plain (op.Bool (failure w.mode (length rest + 2))) ∷ plain (op.Branch (Ahead 2)) ∷ plain (op.Const (boolean true)) ∷ before_label (op.Jump (Ahead (length rest))) deep integers ∷ rest in
        let back = stands_back p frame_slots behind c front lines stands in
        choice_exit es (suc (suc (suc (suc (c + length front))))) x deep integers back.1.1.1.1 (omega (arith, end, length-append front lines))

    none_true_framed : (mode : Mode) (c deep : ℕ) (integers : List (ℕ × Kind)) → Stands p frame_slots behind c (none_true_lines mode deep integers) → frame_at p.frames (c + length (none_true_lines mode deep integers)) ≡ Some (record { pc = c + length (none_true_lines mode deep integers); depth = suc deep; places = integers; slots = frame_slots })
    none_true_framed Condition c deep integers stands =
        let there : suc c ≡ c + 1 = omega arith in
        subst (λ n. frame_at p.frames n ≡ Some (record { pc = n; depth = suc deep; places = integers; slots = frame_slots })) there stands.0.frame
    none_true_framed Body c deep integers stands =
        let there : suc (suc (suc c)) ≡ c + 3 = omega arith in
        subst (λ n. frame_at p.frames n ≡ Some (record { pc = n; depth = suc deep; places = integers; slots = frame_slots })) there stands.1.1.0.frame

    -- after orelse there is a frame with one more place
    pub choice_framed : (es : Expressions) (c deep : ℕ) (integers : List (ℕ × Kind)) → Stands p frame_slots behind c (choice_lines w deep integers es) → frame_at p.frames (c + length (choice_lines w deep integers es)) ≡ Some (record { pc = c + length (choice_lines w deep integers es); depth = suc deep; places = integers; slots = frame_slots })
    choice_framed no_expressions c deep integers stands = none_true_framed w.mode c deep integers stands
    choice_framed (expression e es) c deep integers stands =
        let front = lines_at w deep integers e by_itself in
        let rest = choice_lines w deep integers es in
        let lines = plain (op.Bool (failure w.mode (length rest + 2))) ∷ plain (op.Branch (Ahead 2)) ∷ plain (op.Const (boolean true)) ∷ before_label (op.Jump (Ahead (length rest))) deep integers ∷ rest in
        let q = c + length front in
        let back = stands_back p frame_slots behind c front lines stands in
        let there : suc (suc (suc (suc q))) + length rest ≡ c + length (choice_lines w deep integers (expression e es)) = omega (arith, length-append front lines) in
        subst (λ n. frame_at p.frames n ≡ Some (record { pc = n; depth = suc deep; places = integers; slots = frame_slots })) there (choice_framed es (suc (suc (suc (suc q)))) deep integers back.1.1.1.1)
