-- Functions of two integers are typed.
use Rattle.std.proofs.Common.{◌≡◌, ℕ, suc, ◌+◌, ◌<◌, ◌≤◌, Bool, List, [], ◌∷◌, ◌++◌, refl, sym, ap, subst, arith}
use Rattle.std.specs.Prelude.{IsTrue}
use Rattle.prims_table.specs.declared.prim.Arithmetic.{Arithmetic}
use Rattle.mcode.specs.Kind.{is_below}
use Rattle.mcode.specs.Program.{Program}
use Rattle.mcode.specs.declared.kind.Kind.{Kind}
use Rattle.mcode.specs.declared.kind.Kind.TheVariants as kind
use Rattle.mspec_syntax.specs.declared.mode.Mode.{Mode}
use Rattle.verifier_types.specs.Shape.{Shape, frame_kinds, AreBelow}
use Rattle.compiler_assembly.specs.Line.{SourceLine, plain}
use Rattle.compiler_assembly.specs.Stands.{IsAt, Stands}
use Rattle.compiler_assembly.specs.declared.op.Op.TheVariants as op
use Rattle.compiler_expressions.specs.Expressions.{failure, exit_lines}
use Rattle.compiler.specs.Ready.{IsBlock, IsReady, FlowsTo}
use Rattle.compiler.proofs.FlowLemmas.{AreIntegers, kind_added, kinds_inside}
use Rattle.compiler.proofs.StepLemmas.{IsHeld, top_then, test_then, made_alone}

below_int : (k : Kind) → IsTrue (is_below k kind.Int) → k ≡ kind.Int
below_int kind.Int h = refl
below_int kind.Any h = absurd (cc)
below_int kind.Bool h = absurd (cc)
below_int kind.Cons h = absurd (cc)
below_int kind.Map h = absurd (cc)
below_int (kind.Tuple n) h = absurd (cc)

-- an integer above places that are ready is ready
pub integer_below : (integers : List (ℕ × Kind)) (deep : ℕ) (base : List Kind) → AreIntegers integers deep → AreBelow base (frame_kinds integers deep) → AreBelow (kind.Int ∷ base) (frame_kinds (integers ++ (deep, kind.Int) ∷ []) (suc deep))
integer_below integers deep base ints below =
    let here = kind_added integers deep ints in
    let others = kinds_inside integers deep deep (omega arith) in
    (rw here refl, rw others below)

integer_there : (integers : List (ℕ × Kind)) (deep : ℕ) (ks : List Kind) → AreIntegers integers deep → AreBelow ks (frame_kinds (integers ++ (deep, kind.Int) ∷ []) (suc deep)) → (base : List Kind) × (ks ≡ kind.Int ∷ base) × AreBelow base (frame_kinds integers deep)
integer_there integers deep [] ints h = absurd h
integer_there integers deep (k ∷ ks) ints h =
    let here : IsTrue (is_below k kind.Int) = subst (λ l. IsTrue (is_below k l)) (kind_added integers deep ints) h.0 in
    (ks, ap (λ l. l ∷ ks) (below_int k here), subst (λ ls. AreBelow ks ls) (kinds_inside integers deep deep (omega arith)) h.1)

module _ (p : Program) (most : ℕ) (frame_slots : List ℕ) (behind : ℕ) (block : IsBlock p frame_slots behind) (mode : Mode) (deep : ℕ) (integers : List (ℕ × Kind)) (ints : AreIntegers integers deep) (f : Arithmetic) (q1 q2 n : ℕ) (within : suc q2 < behind) (exit : Stands p frame_slots behind (suc (suc q2)) (exit_lines mode deep integers)) (room : suc (suc deep) ≤ most) where
  -- the flow after the lines of the second argument
  pub second_flow : IsAt p frame_slots behind q2 (plain (op.Int (failure mode 2))) → IsAt p frame_slots behind (suc q2) (plain (op.Arith f (failure mode 1))) → (t : Shape) → IsReady p frame_slots t (suc (suc deep)) (integers ++ (deep, kind.Int) ∷ []) → FlowsTo p most frame_slots q2 (plain (op.Int (failure mode 2)) ∷ plain (op.Arith f (failure mode 1)) ∷ []) t (suc deep) integers
  second_flow h2 h3 =
      top_then p most frame_slots behind block (suc deep) (integers ++ (deep, kind.Int) ∷ []) q2 (plain (op.Int (failure mode 2)) ∷ plain (op.Arith f (failure mode 1)) ∷ []) (suc deep) integers
      (λ k ks bs below held.
      let first = integer_there integers deep ks ints below in
      subst (λ l. FlowsTo p most frame_slots q2 (plain (op.Int (failure mode 2)) ∷ plain (op.Arith f (failure mode 1)) ∷ []) (record { kinds = k ∷ l; bound = bs }) (suc deep) integers) (sym first.1)
      (test_then p most frame_slots behind block mode q2 (suc (suc q2)) 2 deep integers _ (plain (op.Int (failure mode 2))) (plain (op.Arith f (failure mode 1)) ∷ []) kind.Int k (kind.Int ∷ []) first.0 bs (suc deep) integers h2.instruction h2.frame refl refl refl refl tt refl refl refl (λ s. refl) (omega (arith, within)) exit (omega arith) first.2 held (omega (arith, room))
      (made_alone p most frame_slots behind block mode (suc q2) 2 deep integers _ (plain (op.Arith f (failure mode 1))) kind.Int (kind.Int ∷ kind.Int ∷ []) first.0 bs h3.instruction h3.frame refl refl refl refl tt refl refl refl (λ s. refl) refl within exit ints first.2 held (omega (arith, room)))))

  -- the flow after the lines of the first argument
  pub first_flow : (rest : List SourceLine) → IsAt p frame_slots behind q1 (plain (op.Int (failure mode n))) → suc q1 + n ≡ suc (suc (suc q2)) → q1 < behind → ((base : List Kind) (bs : List Bool) → AreBelow base (frame_kinds (integers ++ (deep, kind.Int) ∷ []) (suc deep)) → IsHeld p most frame_slots behind block bs → FlowsTo p most frame_slots (suc q1) rest (record { kinds = base; bound = bs }) (suc deep) integers) → (t : Shape) → IsReady p frame_slots t (suc deep) integers → FlowsTo p most frame_slots q1 (plain (op.Int (failure mode n)) ∷ rest) t (suc deep) integers
  first_flow rest h1 far before others =
      top_then p most frame_slots behind block deep integers q1 (plain (op.Int (failure mode n)) ∷ rest) (suc deep) integers
      (λ k base bs below held.
      test_then p most frame_slots behind block mode q1 (suc (suc q2)) n deep integers _ (plain (op.Int (failure mode n))) rest kind.Int k [] base bs (suc deep) integers h1.instruction h1.frame refl refl refl refl tt refl refl refl (λ s. refl) before exit far below held (omega (arith, room))
      (others (kind.Int ∷ base) bs (integer_below integers deep base ints below) held))
