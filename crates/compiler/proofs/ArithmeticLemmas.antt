-- Functions of two integers, which examine each argument after its lines.
use Rattle.std.proofs.Common.{◌≡◌, ℕ, ℤ, suc, ◌+◌, false, List, [], ◌∷◌, ◌++◌, length, ◌⊎◌, inl, inr, refl, subst, arith, Option, Some, None}
use Rattle.term_core.specs.Datum.{Datum}
use Rattle.term_core.specs.Datum.Datum.{integer, atom, tuple, map, nil, cons, binary}
use Rattle.term_operand.specs.Operand.{integer_of}
use Rattle.prims_table.specs.declared.prim.Arithmetic.{Arithmetic}
use Rattle.prims_table.specs.declared.prim.Primitive.TheVariants as prim
use Rattle.prims.specs.Integers.{arithmetic_of}
use Rattle.std.specs.Option.{option_map}
use Rattle.mcode.specs.Kind.{holds}
use Rattle.mcode.specs.Machine.{Bindings, jump, push_or_jump}
use Rattle.mcode.specs.Program.{Program}
use Rattle.mcode.specs.declared.kind.Kind.{Kind}
use Rattle.mcode.specs.declared.kind.Kind.TheVariants as kind
use Rattle.mspec_syntax.specs.declared.mode.Mode.{Mode}
use Rattle.mspec_match.specs.Failure.{failed}
use Rattle.mspec_meaning.specs.Made.{or_failed}
use Rattle.mspec_meaning.specs.Called.{called}
use Rattle.mspec_meaning.specs.Meaning.{before}
use Rattle.compiler_assembly.specs.Line.{plain}
use Rattle.compiler_assembly.specs.Assembled.{resolved}
use Rattle.compiler_assembly.specs.Stands.{IsAt, Stands}
use Rattle.compiler_assembly.specs.declared.op.Op.TheVariants as op
use Rattle.compiler_expressions.specs.Expressions.{failure, exit_lines}
use Rattle.compiler.specs.Reach.{at, Comes, Lands}
use Rattle.compiler.proofs.FailLemmas.{IsSite, after, fails, ends}
use Rattle.compiler.proofs.ReachLemmas.{comes_by, comes_then, comes_landing}

-- a term is an integer, or instructions see that it is none
pub int_case : (d : Datum) → ((z : ℤ) × (d ≡ integer z)) ⊎ ((holds kind.Int d ≡ false) × (integer_of d ≡ None))
int_case (integer z) = inl (z, refl)
int_case (atom cs) = inr (refl, refl)
int_case (tuple ds) = inr (refl, refl)
int_case (map es) = inr (refl, refl)
int_case nil = inr (refl, refl)
int_case (cons head tail) = inr (refl, refl)
int_case (binary bs) = inr (refl, refl)

module _ (p : Program) (o : Datum) (frame_slots : List ℕ) (behind : ℕ) (site : IsSite p behind) (slots : Bindings) (mode : Mode) (deep : ℕ) (integers : List (ℕ × Kind)) (base : List Datum) (count : length base ≡ deep) where
  -- an integer passes the test
  integer_passes : (q n : ℕ) (z : ℤ) (stack : List Datum) → IsAt p frame_slots behind q (plain (op.Int (failure mode n))) → Comes p o (at q (integer z ∷ stack) slots) (at (suc q) (integer z ∷ stack) slots)
  integer_passes q n z stack h =
      comes_by p o (at q (integer z ∷ stack) slots) (at (suc q) (integer z ∷ stack) slots) _ h.instruction refl

  -- a term that is no integer fails
  other_fails : (q e n r : ℕ) (d : Datum) (above : List Datum) → IsAt p frame_slots behind q (plain (op.Int (failure mode n))) → holds kind.Int d ≡ false → suc q + n ≡ suc e → Stands p frame_slots behind e (exit_lines mode deep integers) → e + length (exit_lines mode deep integers) ≡ r → Comes p o (at q (d ∷ (above ++ base)) slots) (after behind r base slots (failed mode))
  other_fails q e n r d above h none far exit end =
      let lands = fails p o frame_slots behind site slots mode deep integers q e n (d ∷ above) base exit far count in
      let lands' = subst (λ m. Lands p o (jump p (resolved behind q (failure mode n)) (d ∷ (above ++ base)) slots) (after behind m base slots (failed mode))) end lands in
      comes_landing p o (at q (d ∷ (above ++ base)) slots) _ _ h.instruction (rw none lands')

  module _ (f : Arithmetic) (pc q1 q2 r n : ℕ) (i1 : IsAt p frame_slots behind q1 (plain (op.Int (failure mode n)))) (i2 : IsAt p frame_slots behind q2 (plain (op.Int (failure mode 2)))) (i3 : IsAt p frame_slots behind (suc q2) (plain (op.Arith f (failure mode 1)))) (far : suc q1 + n ≡ suc (suc (suc q2))) (exit : Stands p frame_slots behind (suc (suc q2)) (exit_lines mode deep integers)) (end : suc (suc q2) + length (exit_lines mode deep integers) ≡ r) where
    -- the run after the lines of both arguments
    two_values : (x y : Datum) (e : ℤ) → x ≡ integer e → Comes p o (at q2 (y ∷ x ∷ base) slots) (after behind r base slots (called mode (prim.Arithmetic f) (Some (x ∷ y ∷ []))))
    two_values x y z is =
        elim (int_case y) [
          | inl h ↦
              let result = option_map integer (arithmetic_of f z h.0) in
              let lands = ends p o frame_slots behind site slots mode deep integers (suc q2) base result exit count in
              let lands' = subst (λ m. Lands p o (push_or_jump p (suc q2) (resolved behind (suc q2) (failure mode 1)) base slots result) (after behind m base slots (or_failed mode result))) end lands in
              let last = comes_landing p o (at (suc q2) (integer h.0 ∷ integer z ∷ base) slots) _ _ i3.instruction lands' in
              rw is (rw h.1 (comes_then p o (at q2 (integer h.0 ∷ integer z ∷ base) slots) (at (suc q2) (integer h.0 ∷ integer z ∷ base) slots) _ (integer_passes q2 2 h.0 (integer z ∷ base) i2) last))
          | inr h ↦
              let failing = other_fails q2 (suc (suc q2)) 2 r y (x ∷ []) i2 h.0 (omega arith) exit end in
              rw is (rw h.1 (subst (λ x. Comes p o (at q2 (y ∷ x ∷ base) slots) (after behind r base slots (failed mode))) is failing))
        ]

    pub arithmetic_run : (a b : Option Datum) → (b ≡ None → failed mode ≡ None) → Comes p o (at pc base slots) (after behind q1 base slots a) → ((d : Datum) → Comes p o (at (suc q1) (d ∷ base) slots) (after behind q2 (d ∷ base) slots b)) → Comes p o (at pc base slots) (after behind r base slots (called mode (prim.Arithmetic f) (before a (before b (Some [])))))
    arithmetic_run None None sure first second = first
    arithmetic_run None (Some y) sure first second = first
    arithmetic_run (Some x) None sure first second =
        elim (int_case x) [
          | inl h ↦
              let passes = integer_passes q1 n h.0 base i1 in
              let start = subst (λ d. Comes p o (at pc base slots) (at q1 (d ∷ base) slots)) h.1 first in
              comes_then p o (at pc base slots) (at q1 (integer h.0 ∷ base) slots) _ start
              (comes_then p o (at q1 (integer h.0 ∷ base) slots) (at (suc q1) (integer h.0 ∷ base) slots) _ passes (second (integer h.0)))
          | inr h ↦
              let failing = other_fails q1 (suc (suc q2)) n r x [] i1 h.0 far exit end in
              let failing' = rw (sure refl) at failing in
              comes_then p o (at pc base slots) (at q1 (x ∷ base) slots) _ first failing'
        ]
    arithmetic_run (Some x) (Some y) sure first second =
        elim (int_case x) [
          | inl h ↦
              let passes = integer_passes q1 n h.0 base i1 in
              let start = subst (λ d. Comes p o (at pc base slots) (at q1 (d ∷ base) slots)) h.1 first in
              let both = subst (λ d. Comes p o (at q2 (y ∷ d ∷ base) slots) (after behind r base slots (called mode (prim.Arithmetic f) (Some (x ∷ y ∷ []))))) h.1 (two_values x y h.0 h.1) in
              comes_then p o (at pc base slots) (at q1 (integer h.0 ∷ base) slots) _ start
              (comes_then p o (at q1 (integer h.0 ∷ base) slots) (at (suc q1) (integer h.0 ∷ base) slots) _ passes
              (comes_then p o (at (suc q1) (integer h.0 ∷ base) slots) (at q2 (y ∷ integer h.0 ∷ base) slots) _ (second (integer h.0)) both))
          | inr h ↦
              let failing = other_fails q1 (suc (suc q2)) n r x [] i1 h.0 far exit end in
              rw h.1 (comes_then p o (at pc base slots) (at q1 (x ∷ base) slots) _ first failing)
        ]
