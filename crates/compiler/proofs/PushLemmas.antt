-- Instructions that push, and those that take operands, in lines.
use Rattle.std.proofs.Common.{◌≡◌, ℕ, suc, ◌≤◌, List, ◌∷◌, ◌++◌, length, take, drop, reverse, refl, arith, Option, Some}
use mathlib.Core.List.{reverse_aux, reverse_aux-eq}
use Rattle.std.proofs.Math.Seq.{drop-append_seam, take-append_seam}
use Rattle.std.proofs.lemmas.List.{length-append, length-reverse, reverse-reverse}
use Rattle.std.proofs.lemmas.Bool.{le-leb}
use Rattle.term_core.specs.Datum.{Datum}
use Rattle.mcode.specs.Machine.{Bindings, binding, push_or_jump, replace_outcome}
use Rattle.mcode.specs.Program.{Program}
use Rattle.mcode.specs.declared.instr.Instr.TheVariants as instr
use Rattle.compiler_assembly.specs.Line.{SourceLine, plain}
use Rattle.compiler_assembly.specs.Stands.{IsAt}
use Rattle.compiler_assembly.specs.declared.op.Op.TheVariants as op
use Rattle.compiler.specs.Reach.{at, Comes}
use Rattle.compiler.proofs.ReachLemmas.{comes_by}

module _ (p : Program) (o : Datum) (frame_slots : List ℕ) (behind : ℕ) (slots : Bindings) where
  pub load_runs : (pc : ℕ) (base : List Datum) (l : SourceLine) → IsAt p frame_slots behind pc l → l.op ≡ op.Load → Comes p o (at pc base slots) (at (suc pc) (o ∷ base) slots)
  load_runs pc base l h e = comes_by p o (at pc base slots) (at (suc pc) (o ∷ base) slots) instr.Load (rw e at h.instruction) refl

  pub const_runs : (pc : ℕ) (base : List Datum) (d : Datum) → IsAt p frame_slots behind pc (plain (op.Const d)) → Comes p o (at pc base slots) (at (suc pc) (d ∷ base) slots)
  const_runs pc base d h =
      comes_by p o (at pc base slots) (at (suc pc) (d ∷ base) slots) _ h.instruction (rw h.constant refl)

  pub get_runs : (pc v : ℕ) (base : List Datum) (d : Datum) → IsAt p frame_slots behind pc (plain (op.Get v)) → binding slots v ≡ Some d → Comes p o (at pc base slots) (at (suc pc) (d ∷ base) slots)
  get_runs pc v base d h is =
      comes_by p o (at pc base slots) (at (suc pc) (d ∷ base) slots) _ h.instruction (rw is refl)

  -- an instruction takes operands that were pushed one by one
  pub replaced : (q target : ℕ) (ds base : List Datum) (f : List Datum → Option Datum) → replace_outcome p q target (reverse_aux ds base) slots (length ds) f ≡ push_or_jump p q target base slots (f ds)
  replaced q target ds base f =
      let split : reverse_aux ds base ≡ reverse ds ++ base = reverse_aux-eq ds base in
      let count : length (reverse ds) ≡ length ds = length-reverse ds in
      let many : length ds ≤ length (reverse ds ++ base) = omega (arith, length-append (reverse ds) base) in
      let first : take (length ds) (reverse ds ++ base) ≡ reverse ds = rw (← count) (take-append_seam (reverse ds) base) in
      let rest : drop (length ds) (reverse ds ++ base) ≡ base = rw (← count) (drop-append_seam (reverse ds) base) in
      rw split
      (rw (le-leb (length ds) (length (reverse ds ++ base)) many)
      (rw first (rw rest (rw (reverse-reverse ds) refl))))
