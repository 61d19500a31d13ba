-- Variables' values, one by one and as a list.
use Rattle.std.proofs.Common.{◌≡◌, ℕ, zero, suc, ◌+◌, cond, List, [], ◌∷◌, ◌++◌, length, map, inl, inr, refl, sym, ◌∙◌, ap, subst, arith, Some}
use mathlib.Core.List.{reverse_aux}
use Rattle.std.proofs.lemmas.Bool.{cases_eq, eq-eqb, ne_eqb}
use Rattle.std.proofs.lemmas.List.{length-append, length-map}
use Rattle.term_core.specs.Datum.{Datum, cells}
use Rattle.term_core.specs.Datum.Datum.{nil}
use Rattle.mcode.specs.Machine.{Bindings, binding}
use Rattle.mcode.specs.Program.{Program}
use Rattle.mcode.specs.declared.kind.Kind.{Kind}
use Rattle.mspec_syntax.specs.Rising.{rank_of}
use Rattle.mspec_syntax.specs.declared.mode.Mode.{Mode}
use Rattle.mspec_match.specs.Match.{Substitution, domain, values_of, lookup}
use Rattle.mspec_meaning.specs.Made.{made}
use Rattle.compiler_assembly.specs.Line.{SourceLine, plain}
use Rattle.compiler_assembly.specs.Stands.{Stands}
use Rattle.compiler_assembly.specs.declared.op.Op.TheVariants as op
use Rattle.compiler_assembly.proofs.StandLemmas.{stands_front, stands_back}
use Rattle.compiler_expressions.specs.Expressions.{Site, exit_lines, cell_lines, bindings_lines}
use Rattle.compiler.specs.Reach.{at, Comes}
use Rattle.compiler.specs.Shown.{AreShown}
use Rattle.compiler.specs.Spread.{spread, HasCells}
use Rattle.compiler.proofs.FailLemmas.{IsSite, after}
use Rattle.compiler.proofs.ListLemmas.{cells_run}
use Rattle.compiler.proofs.PushLemmas.{const_runs, get_runs}
use Rattle.compiler.proofs.ReachLemmas.{comes_here, comes_then, comes_same}

-- the value of a variable is in its slot
pub shown_binding : (vs : List ℕ) (slots : Bindings) (s : Substitution) (n : ℕ) (d : Datum) → AreShown vs slots s → lookup s n ≡ Some d → binding slots (rank_of vs n) ≡ Some d
shown_binding vs slots [] n d h e = absurd (cc)
shown_binding vs slots (f ∷ s) n d h e =
    elim (cases_eq f.0 n) [
      | inl z ↦
          let value = sym (ap (λ b. cond b (Some f.1) (lookup s n)) (eq-eqb f.0 n z)) ∙ e in
          sym (ap (λ m. binding slots (rank_of vs m)) z) ∙ h.0 ∙ value
      | inr z ↦ shown_binding vs slots s n d h.1 (sym (ap (λ b. cond b (Some f.1) (lookup s n)) (ne_eqb f.0 n z)) ∙ e)
    ]

spread_cells : (ds : List Datum) (base : List Datum) → spread (length ds) (cells ds nil) base ≡ nil ∷ reverse_aux ds base
spread_cells [] base = refl
spread_cells (d ∷ ds) base = spread_cells ds (d ∷ base)

has_cells : (ds : List Datum) → HasCells (length ds) (cells ds nil)
has_cells [] = tt
has_cells (d ∷ ds) = has_cells ds

abbrev get_lines : List ℕ → List ℕ → List SourceLine
get_lines vs ns = map (λ n. plain (op.Get (rank_of vs n))) ns

module _ (p : Program) (o : Datum) (frame_slots : List ℕ) (behind : ℕ) (slots : Bindings) (vs : List ℕ) where
  gets_run : (s : Substitution) (pc : ℕ) (base : List Datum) → AreShown vs slots s → Stands p frame_slots behind pc (get_lines vs (domain s)) → Comes p o (at pc base slots) (at (pc + length (values_of s)) (reverse_aux (values_of s) base) slots)
  gets_run [] pc base h stands =
      let there : pc ≡ pc + 0 = omega arith in
      comes_same p o (at pc base slots) _ _ (ap (λ n. at n base slots) there) (comes_here p o (at pc base slots))
  gets_run (e ∷ s) pc base h stands =
      let there : suc pc + length (values_of s) ≡ pc + length (values_of (e ∷ s)) = omega arith in
      comes_then p o (at pc base slots) (at (suc pc) (e.1 ∷ base) slots) _ (get_runs p o frame_slots behind slots pc (rank_of vs e.0) base e.1 stands.0 h.0)
      (comes_same p o (at (suc pc) (e.1 ∷ base) slots) _ _ (ap (λ n. at n (reverse_aux (values_of s) (e.1 ∷ base)) slots) there) (gets_run s (suc pc) (e.1 ∷ base) h.1 stands.1))

module _ (p : Program) (o : Datum) (frame_slots : List ℕ) (behind : ℕ) (site : IsSite p behind) (slots : Bindings) (w : Site) (deep : ℕ) (integers : List (ℕ × Kind)) (base : List Datum) (count : length base ≡ deep) where
  some_run : (e : ℕ × Datum) (s : Substitution) (pc r : ℕ) → AreShown w.slots slots (e ∷ s) → Stands p frame_slots behind pc (bindings_lines w deep integers (domain (e ∷ s))) → pc + length (bindings_lines w deep integers (domain (e ∷ s))) ≡ r → Comes p o (at pc base slots) (after behind r base slots (made w.mode (cells (values_of (e ∷ s)) nil)))
  some_run e s pc r shown stands end =
      let gets = get_lines w.slots (domain (e ∷ s)) in
      let values = values_of (e ∷ s) in
      let many : length gets ≡ length values = length-map (domain (e ∷ s)) (λ n. plain (op.Get (rank_of w.slots n))) ∙ length-map (e ∷ s) (λ f. f.0) ∙ sym (length-map (e ∷ s) (λ f. f.1)) in
      let same : length (domain (e ∷ s)) ≡ length values = length-map (e ∷ s) (λ f. f.0) ∙ sym (length-map (e ∷ s) (λ f. f.1)) in
      let cell = cell_lines w.mode (length (domain (e ∷ s))) in
      let exit = exit_lines w.mode deep integers in
      let front = stands_front p frame_slots behind pc gets (plain (op.Const nil) ∷ (cell ++ exit)) stands in
      let back = subst (λ n. Stands p frame_slots behind (pc + n) (plain (op.Const nil) ∷ (cell ++ exit))) many (stands_back p frame_slots behind pc gets (plain (op.Const nil) ∷ (cell ++ exit)) stands) in
      let q = pc + length values in
      let made_cells = subst (λ n. Stands p frame_slots behind (suc q) (cell_lines w.mode n)) same (stands_front p frame_slots behind (suc q) cell exit back.1) in
      let exits = stands_back p frame_slots behind (suc q) cell exit back.1 in
      let cell_many : length cell ≡ length values = cell_length w.mode (length (domain (e ∷ s))) ∙ same in
      let exits' = subst (λ n. Stands p frame_slots behind (suc q + n) exit) cell_many exits in
      let end' : suc q + length values + length exit ≡ r = omega (arith, end, length-append gets (plain (op.Const nil) ∷ (cell ++ exit)), length-append cell exit, many, cell_many) in
      let pushed = gets_run p o frame_slots behind slots w.slots (e ∷ s) pc base shown front in
      let nil_pushed = const_runs p o frame_slots behind slots q (reverse_aux values base) nil back.0 in
      let run = cells_run p o frame_slots behind site slots w.mode deep integers base count (length values) (suc q) (suc q + length values) r (cells values nil) (has_cells values) made_cells refl exits' end' in
      let run' = subst (λ l. Comes p o (at (suc q) l slots) (after behind r base slots (made w.mode (cells values nil)))) (spread_cells values base) run in
      comes_then p o (at pc base slots) (at q (reverse_aux values base) slots) _ pushed
      (comes_then p o (at q (reverse_aux values base) slots) (at (suc q) (nil ∷ reverse_aux values base) slots) _ nil_pushed run')
    where
      cell_length : (mode : Mode) (n : ℕ) → length (cell_lines mode n) ≡ n
      cell_length mode zero = refl
      cell_length mode (suc n) = ap suc (cell_length mode n)

  -- the run of the lines of '$$'
  pub bindings_run : (s : Substitution) (pc r : ℕ) → domain s ≡ w.bound → AreShown w.slots slots s → Stands p frame_slots behind pc (bindings_lines w deep integers w.bound) → pc + length (bindings_lines w deep integers w.bound) ≡ r → Comes p o (at pc base slots) (after behind r base slots (made w.mode (cells (values_of s) nil)))
  bindings_run [] pc r dom shown stands end =
      let stands' = subst (λ l. Stands p frame_slots behind pc (bindings_lines w deep integers l)) (sym dom) stands in
      let end' = subst (λ l. pc + length (bindings_lines w deep integers l) ≡ r) (sym dom) end in
      let there : suc pc ≡ r = omega (arith, end') in
      comes_same p o (at pc base slots) _ _ (ap (λ n. at n (nil ∷ base) slots) there) (const_runs p o frame_slots behind slots pc base nil stands'.0)
  bindings_run (e ∷ s) pc r dom shown stands end =
      some_run e s pc r shown
      (subst (λ l. Stands p frame_slots behind pc (bindings_lines w deep integers l)) (sym dom) stands)
      (subst (λ l. pc + length (bindings_lines w deep integers l) ≡ r) (sym dom) end)
