-- Arguments of andalso and orelse are typed.
use Rattle.std.proofs.Common.{◌≡◌, ℕ, suc, ◌+◌, ◌<◌, ◌≤◌, Bool, true, false, List, [], ◌∷◌, refl, sym, subst, arith, Some}
use Rattle.term_operand.specs.Operand.{boolean}
use Rattle.mcode.specs.Program.{Program, frame_at}
use Rattle.mcode.specs.declared.kind.Kind.{Kind}
use Rattle.mcode.specs.declared.kind.Kind.TheVariants as kind
use Rattle.mspec_syntax.specs.declared.mode.Mode.{Mode}
use Rattle.mspec_syntax.specs.declared.mode.Mode.TheVariants.{Condition, Body}
use Rattle.verifier_types.specs.Shape.{Shape, frame_kinds, AreBelow}
use Rattle.compiler_assembly.specs.Line.{SourceLine, plain, before_label}
use Rattle.compiler_assembly.specs.Stands.{IsAt, Stands}
use Rattle.compiler_assembly.specs.declared.op.Op.TheVariants as op
use Rattle.compiler_assembly.specs.declared.op.Target.TheVariants.{Ahead}
use Rattle.compiler_expressions.specs.Expressions.{failure, exit_lines, all_true_lines, none_true_lines}
use Rattle.compiler_expressions.proofs.EndLemmas.{all_true_exit}
use Rattle.compiler.specs.Ready.{IsBlock, IsReady, FlowsTo}
use Rattle.compiler.proofs.FlowLemmas.{AreIntegers}
use Rattle.compiler.proofs.ReadyLemmas.{label_frame, label_fits}
use Rattle.compiler.proofs.StepLemmas.{IsHeld, top_then, const_then, jump_then, const_label, exit_flow, test_then, branch_then}

module _ (p : Program) (most : ℕ) (frame_slots : List ℕ) (behind : ℕ) (block : IsBlock p frame_slots behind) (deep : ℕ) (integers : List (ℕ × Kind)) (ints : AreIntegers integers deep) (room : suc deep ≤ most) where
  framed_at : (a b n : ℕ) → a ≡ b → frame_at p.frames a ≡ Some (label_frame a n integers frame_slots) → frame_at p.frames b ≡ Some (label_frame b n integers frame_slots)
  framed_at a b n e h = subst (λ m. frame_at p.frames m ≡ Some (label_frame m n integers frame_slots)) e h

  pub all_true_flow : (mode : Mode) (e : ℕ) (base : List Kind) (bs : List Bool) → Stands p frame_slots behind e (all_true_lines mode deep integers) → AreBelow base (frame_kinds integers deep) → IsHeld p most frame_slots behind block bs → FlowsTo p most frame_slots e (all_true_lines mode deep integers) (record { kinds = base; bound = bs }) (suc deep) integers
  all_true_flow Condition e base bs stands below held =
      const_then p most frame_slots behind block e (boolean true) _ base bs deep integers (suc deep) integers stands.0 ints below held room
      (λ t ready. jump_then p most frame_slots behind block (suc e) 1 deep (suc deep) integers _ t.kinds t.bound (suc deep) integers stands.1.0
      (framed_at (suc (suc (suc e))) (suc (suc e) + 1) (suc deep) (omega arith) stands.1.1.0.frame) ready.kinds (ready.count, ready.bound) room
      (λ u next. const_label p most frame_slots behind block (suc (suc e)) (boolean false) deep integers u.kinds u.bound stands.1.1.0 ints next.kinds (next.count, next.bound) room))
  all_true_flow Body e base bs stands below held =
      const_then p most frame_slots behind block e (boolean true) _ base bs deep integers (suc deep) integers stands.0 ints below held room
      (λ t ready. jump_then p most frame_slots behind block (suc e) 3 deep (suc deep) integers _ t.kinds t.bound (suc deep) integers stands.1.0
      (framed_at (suc (suc (suc (suc (suc e))))) (suc (suc e) + 3) (suc deep) (omega arith) stands.1.1.1.1.0.frame) ready.kinds (ready.count, ready.bound) room
      (λ u next. const_then p most frame_slots behind block (suc (suc e)) (boolean false) _ u.kinds u.bound deep integers (suc deep) integers stands.1.1.0 ints next.kinds (next.count, next.bound) room
      (top_then p most frame_slots behind block deep integers (suc (suc (suc e))) (exit_lines Body deep integers) (suc deep) integers
      (λ k base' bs' below' held'. exit_flow p most frame_slots behind block Body (suc (suc (suc e))) deep integers k base' bs' stands.1.1.1 ints below' held' room))))

  pub none_true_flow : (mode : Mode) (c : ℕ) (base : List Kind) (bs : List Bool) → Stands p frame_slots behind c (none_true_lines mode deep integers) → AreBelow base (frame_kinds integers deep) → IsHeld p most frame_slots behind block bs → FlowsTo p most frame_slots c (none_true_lines mode deep integers) (record { kinds = base; bound = bs }) (suc deep) integers
  none_true_flow Condition c base bs stands below held = const_label p most frame_slots behind block c (boolean false) deep integers base bs stands.0 ints below held room
  none_true_flow Body c base bs stands below held =
      const_then p most frame_slots behind block c (boolean false) _ base bs deep integers (suc deep) integers stands.0 ints below held room
      (top_then p most frame_slots behind block deep integers (suc c) (exit_lines Body deep integers) (suc deep) integers
      (λ k base' bs' below' held'. exit_flow p most frame_slots behind block Body (suc c) deep integers k base' bs' stands.1 ints below' held' room))

  false_label : (mode : Mode) (e : ℕ) → Stands p frame_slots behind e (all_true_lines mode deep integers) → frame_at p.frames (suc (suc e)) ≡ Some (label_frame (suc (suc e)) deep integers frame_slots)
  false_label Condition e h = h.1.0.frame
  false_label Body e h = h.1.0.frame

  -- the flow after the value of an argument of andalso
  pub and_flow : (mode : Mode) (q n e : ℕ) (others : List SourceLine) (deep' : ℕ) → IsAt p frame_slots behind q (plain (op.Bool (failure mode (n + 5)))) → IsAt p frame_slots behind (suc q) (plain (op.Branch (Ahead (n + 2)))) → suc (suc q) + n ≡ e → q < behind → Stands p frame_slots behind e (all_true_lines mode deep integers) → ((base : List Kind) (bs : List Bool) → AreBelow base (frame_kinds integers deep) → IsHeld p most frame_slots behind block bs → FlowsTo p most frame_slots (suc (suc q)) others (record { kinds = base; bound = bs }) deep' integers) → (t : Shape) → IsReady p frame_slots t (suc deep) integers → FlowsTo p most frame_slots q (plain (op.Bool (failure mode (n + 5))) ∷ plain (op.Branch (Ahead (n + 2))) ∷ others) t deep' integers
  and_flow mode q n e others deep' h1 h2 there within ending rest =
      top_then p most frame_slots behind block deep integers q _ deep' integers
      (λ k base bs below held.
      let far : suc q + (n + 5) ≡ suc (suc (suc (suc e))) = omega (arith, there) in
      let target : suc (suc q) + (n + 2) ≡ suc (suc e) = omega (arith, there) in
      let ahead : suc q < suc (suc q) + (n + 2) = omega arith in
      let ways = label_fits p most frame_slots behind block (suc q) (suc (suc q) + (n + 2)) deep integers [] base bs (framed_at (suc (suc e)) (suc (suc q) + (n + 2)) deep (sym target) (false_label mode e ending)) ahead below held.1 in
      test_then p most frame_slots behind block mode q (suc (suc (suc e))) (n + 5) deep integers _ _ _ kind.Bool k [] base bs deep' integers h1.instruction h1.frame refl refl refl refl tt refl refl refl (λ s. refl) within (all_true_exit p frame_slots behind mode e deep integers ending) far below held (omega (arith, room))
      (branch_then p most frame_slots behind block (suc q) (suc (suc q) + (n + 2)) _ others base bs deep integers deep' integers h2.instruction h2.frame ways below (omega (arith, room)) (rest base bs below held)))

  -- the flow after the value of an argument of orelse
  pub or_flow : (mode : Mode) (q n x r : ℕ) (others : List SourceLine) → IsAt p frame_slots behind q (plain (op.Bool (failure mode (n + 2)))) → IsAt p frame_slots behind (suc q) (plain (op.Branch (Ahead 2))) → IsAt p frame_slots behind (suc (suc q)) (plain (op.Const (boolean true))) → IsAt p frame_slots behind (suc (suc (suc q))) (before_label (op.Jump (Ahead n)) deep integers) → q < behind → Stands p frame_slots behind x (exit_lines mode deep integers) → suc (suc x) ≡ r → suc (suc (suc (suc q))) + n ≡ r → frame_at p.frames r ≡ Some (label_frame r (suc deep) integers frame_slots) → ((base : List Kind) (bs : List Bool) → AreBelow base (frame_kinds integers deep) → IsHeld p most frame_slots behind block bs → FlowsTo p most frame_slots (suc (suc (suc (suc q)))) others (record { kinds = base; bound = bs }) (suc deep) integers) → (t : Shape) → IsReady p frame_slots t (suc deep) integers → FlowsTo p most frame_slots q (plain (op.Bool (failure mode (n + 2))) ∷ plain (op.Branch (Ahead 2)) ∷ plain (op.Const (boolean true)) ∷ before_label (op.Jump (Ahead n)) deep integers ∷ others) t (suc deep) integers
  or_flow mode q n x r others h1 h2 h3 h4 within exit last there framed rest =
      top_then p most frame_slots behind block deep integers q _ (suc deep) integers
      (λ k base bs below held.
      let far : suc q + (n + 2) ≡ suc x = omega (arith, there, last) in
      let target : suc (suc q) + 2 ≡ suc (suc (suc (suc q))) = omega arith in
      let ahead : suc q < suc (suc q) + 2 = omega arith in
      let ways = label_fits p most frame_slots behind block (suc q) (suc (suc q) + 2) deep integers [] base bs (framed_at (suc (suc (suc (suc q)))) (suc (suc q) + 2) deep (sym target) h4.frame) ahead below held.1 in
      test_then p most frame_slots behind block mode q x (n + 2) deep integers _ _ _ kind.Bool k [] base bs (suc deep) integers h1.instruction h1.frame refl refl refl refl tt refl refl refl (λ s. refl) within exit far below held (omega (arith, room))
      (branch_then p most frame_slots behind block (suc q) (suc (suc q) + 2) _ _ base bs deep integers (suc deep) integers h2.instruction h2.frame ways below (omega (arith, room))
      (const_then p most frame_slots behind block (suc (suc q)) (boolean true) _ base bs deep integers (suc deep) integers h3 ints below held room
      (λ t ready. jump_then p most frame_slots behind block (suc (suc (suc q))) n deep (suc deep) integers others t.kinds t.bound (suc deep) integers h4
      (framed_at r (suc (suc (suc (suc q))) + n) (suc deep) (sym there) framed) ready.kinds (ready.count, ready.bound) room
      (λ u next. rest u.kinds u.bound next.kinds (next.count, next.bound))))))
