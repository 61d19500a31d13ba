-- Runs, one part after the other.
use Rattle.std.proofs.Common.{◌≡◌, ℕ, zero, suc, ◌-◌, ◌<◌, ◌≤◌, List, ◌++◌, length, refl, sym, ◌∙◌, ap, subst, arith, Option, Some, slice_get}
use Rattle.std.proofs.Math.Seq.{drop-append_seam}
use Rattle.std.proofs.lemmas.List.{length-append}
use Rattle.std.proofs.lemmas.Bool.{lt-ltb, le-leb}
use Rattle.term_core.specs.Datum.{Datum}
use Rattle.mcode.specs.Machine.{Bindings, State, Outcome, step, outcome_at, jump, RunsFrom}
use Rattle.mcode.specs.Machine.Outcome.{Goes, Ends}
use Rattle.mcode.specs.Program.{Program, Frame, frame_at}
use Rattle.mcode.specs.declared.instr.Instr.{Instr}
use Rattle.compiler.specs.Reach.{at, ComesIn, Comes, Lands}

module _ (p : Program) (o : Datum) where
  pub comes_here : (s : State) → Comes p o s s
  comes_here s = (0, refl)

  comes_on : (n : ℕ) (s t u : State) → ComesIn p o n s t → Comes p o t u → Comes p o s u
  comes_on zero s t u e c = subst (λ x. Comes p o x u) (sym e) c
  comes_on (suc n) s t u h c = let rest = comes_on n h.0 t u h.2 c in (suc rest.0, (h.0, h.1, rest.1))

  pub comes_then : (s t u : State) → Comes p o s t → Comes p o t u → Comes p o s u
  comes_then s t u a b = comes_on a.0 s t u a.1 b

  pub comes_same : (s t u : State) → t ≡ u → Comes p o s t → Comes p o s u
  comes_same s t u e h = subst (λ x. Comes p o s x) e h

  -- the instruction at a state leads to another
  pub comes_by : (s t : State) (i : Instr) → slice_get p.instructions s.pc ≡ Some i → outcome_at p o s (Some i) ≡ Goes t → Comes p o s t
  comes_by s t i h e = (1, (t, ap (outcome_at p o s) h ∙ e, refl))

  -- the instruction at a state leads to a state from which the run continues
  pub comes_landing : (s t : State) (i : Instr) → slice_get p.instructions s.pc ≡ Some i → Lands p o (outcome_at p o s (Some i)) t → Comes p o s t
  comes_landing s t i h l = comes_then s l.0 t (comes_by s l.0 i h l.1) l.2

  pub lands_then : (w : Outcome) (t u : State) → Lands p o w t → Comes p o t u → Lands p o w u
  lands_then w t u l c = (l.0, l.1, comes_then l.0 t u l.2 c)

  pub lands_here : (t : State) → Lands p o (Goes t) t
  lands_here t = (t, refl, comes_here t)

  runs_on : (n : ℕ) (s t : State) (a : Option Datum) → ComesIn p o n s t → step p o t ≡ Ends a → (m : ℕ) × RunsFrom p o m (Goes s) a
  runs_on zero s t a e h =
      let ends : step p o s ≡ Ends a = ap (step p o) e ∙ h in
      (1, subst (λ w. RunsFrom p o 0 w a) (sym ends) refl)
  runs_on (suc n) s t a c h =
      let rest = runs_on n c.0 t a c.2 h in
      (suc rest.0, subst (λ w. RunsFrom p o rest.0 w a) (sym c.1) rest.1)

  runs_later : (n : ℕ) (s t : State) (m : ℕ) (a : Option Datum) → ComesIn p o n s t → RunsFrom p o m (Goes t) a → (k : ℕ) × RunsFrom p o k (Goes s) a
  runs_later zero s t m a e h = (m, subst (λ x. RunsFrom p o m (Goes x) a) (sym e) h)
  runs_later (suc n) s t m a c h =
      let rest = runs_later n c.0 t m a c.2 h in
      (suc rest.0, subst (λ w. RunsFrom p o rest.0 w a) (sym c.1) rest.1)

  -- a run that comes to a state ends as it does from there
  pub runs_from : (s t : State) (m : ℕ) (a : Option Datum) → Comes p o s t → RunsFrom p o m (Goes t) a → (k : ℕ) × RunsFrom p o k (Goes s) a
  runs_from s t m a c h = runs_later c.0 s t m a c.1 h

  -- a run that comes to an instruction which ends it has ended
  pub runs_to : (s t : State) (a : Option Datum) → Comes p o s t → step p o t ≡ Ends a → (m : ℕ) × RunsFrom p o m (Goes s) a
  runs_to s t a c h = runs_on c.0 s t a c.1 h

-- a jump to a frame that has as many places as `base`, which are the lowest
pub jump_lands : (p : Program) (target : ℕ) (f : Frame) (above base : List Datum) (slots : Bindings) → ((n : ℕ) (g : Frame) → frame_at p.frames n ≡ Some g → n < length p.instructions) → frame_at p.frames target ≡ Some f → f.depth ≡ length base → jump p target (above ++ base) slots ≡ Goes (at target base slots)
jump_lands p target f above base slots inside framed depth =
    let within : target < length p.instructions = inside target f framed in
    let deep : f.depth ≤ length (above ++ base) = omega (arith, length-append above base) in
    let rest : length (above ++ base) - f.depth ≡ length above = omega (arith, length-append above base) in
    rw (lt-ltb target (length p.instructions) within)
    (rw framed
    (rw (le-leb f.depth (length (above ++ base)) deep)
    (rw rest (rw (drop-append_seam above base) refl))))
