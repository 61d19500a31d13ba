-- What is made of operands that were pushed one by one.
use Rattle.std.proofs.Common.{◌≡◌, ℕ, suc, ◌+◌, List, [], length, refl, subst, Option, Some, None, slice_get}
use mathlib.Core.List.{reverse_aux}
use Rattle.term_core.specs.Datum.{Datum}
use Rattle.mcode.specs.Machine.{Bindings, State, outcome_at, push_or_jump}
use Rattle.mcode.specs.Program.{Program}
use Rattle.mcode.specs.declared.instr.Instr.{Instr}
use Rattle.mcode.specs.declared.kind.Kind.{Kind}
use Rattle.mspec_syntax.specs.declared.mode.Mode.{Mode}
use Rattle.mspec_meaning.specs.Made.{or_failed}
use Rattle.compiler_assembly.specs.Assembled.{resolved}
use Rattle.compiler_assembly.specs.Stands.{Stands}
use Rattle.compiler_expressions.specs.Expressions.{failure, exit_lines}
use Rattle.compiler.specs.Reach.{at, Comes, Lands}
use Rattle.compiler.specs.Spread.{spread}
use Rattle.compiler.proofs.FailLemmas.{IsSite, after, ends}
use Rattle.compiler.proofs.ReachLemmas.{comes_then, comes_landing}

-- the state of a run after lines that push several values, or if one of them is missing
abbrev pub after_places : {X : Type 0} → (X → List Datum) → ℕ → ℕ → List Datum → Bindings → Option X → State
after_places places behind pc base slots None = at behind [] slots
after_places places behind pc base slots (Some x) = at pc (reverse_aux (places x) base) slots

-- the state of a run after an expression whose first elements are separate places on the stack
abbrev pub after_spread : ℕ → ℕ → ℕ → List Datum → Bindings → Option Datum → State
after_spread behind pc n base slots None = at behind [] slots
after_spread behind pc n base slots (Some d) = at pc (spread n d base) slots

pub one_spread : (p : Program) (o : Datum) (s : State) (behind pc : ℕ) (base : List Datum) (slots : Bindings) (v : Option Datum) → Comes p o s (after behind pc base slots v) → Comes p o s (after_spread behind pc 0 base slots v)
one_spread p o s behind pc base slots None h = h
one_spread p o s behind pc base slots (Some d) h = h

pub spread_one : (p : Program) (o : Datum) (s : State) (behind pc : ℕ) (base : List Datum) (slots : Bindings) (v : Option Datum) → Comes p o s (after_spread behind pc 0 base slots v) → Comes p o s (after behind pc base slots v)
spread_one p o s behind pc base slots None h = h
spread_one p o s behind pc base slots (Some d) h = h

module _ (p : Program) (o : Datum) (frame_slots : List ℕ) (behind : ℕ) (site : IsSite p behind) (slots : Bindings) (mode : Mode) (deep : ℕ) (integers : List (ℕ × Kind)) (base : List Datum) (count : length base ≡ deep) where
  -- an instruction that makes one value of all of them, or fails
  pub made_run : {X : Type 0} (places : X → List Datum) (values : Option X) (value : Option X → Option Datum) (make : X → Option Datum) (pc q r : ℕ) (i : Instr) → value None ≡ None → ((x : X) → value (Some x) ≡ or_failed mode (make x)) → Comes p o (at pc base slots) (after_places places behind q base slots values) → slice_get p.instructions q ≡ Some i → ((x : X) → values ≡ Some x → outcome_at p o (at q (reverse_aux (places x) base) slots) (Some i) ≡ push_or_jump p q (resolved behind q (failure mode 1)) base slots (make x)) → Stands p frame_slots behind (suc q) (exit_lines mode deep integers) → suc q + length (exit_lines mode deep integers) ≡ r → Comes p o (at pc base slots) (after behind r base slots (value values))
  made_run places None value make pc q r i missing there run stands acts exit end = rw missing run
  made_run places (Some x) value make pc q r i missing there run stands acts exit end =
      let lands = ends p o frame_slots behind site slots mode deep integers q base (make x) exit count in
      let lands' = subst (λ n. Lands p o (push_or_jump p q (resolved behind q (failure mode 1)) base slots (make x)) (after behind n base slots (or_failed mode (make x)))) end lands in
      rw (there x)
      (comes_then p o (at pc base slots) (at q (reverse_aux (places x) base) slots) _ run
      (comes_landing p o (at q (reverse_aux (places x) base) slots) _ i stands (rw (acts x refl) lands')))
