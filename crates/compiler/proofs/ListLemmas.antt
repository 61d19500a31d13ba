-- Lists that are made cell by cell.
use Rattle.std.proofs.Common.{◌≡◌, ℕ, zero, suc, ◌+◌, ◌<◌, append_assoc, Bool, true, false, ◌||◌, List, [], ◌∷◌, ◌++◌, length, refl, sym, ◌∙◌, ap, subst, arith, Option, Some, None, inl, inr}
use Rattle.std.specs.Prelude.{nat_lt}
use Rattle.std.proofs.lemmas.Bool.{or_cases, lt-ltb, ltb-true}
use Rattle.term_core.specs.Datum.{Datum, cells, cell_count}
use Rattle.term_core.specs.Datum.Datum.{cons}
use Rattle.term_core.specs.Limits.{depth, is_too_long, is_past_limits, within_limits}
use Rattle.term_core.specs.Sizes.{depth_limit, list_limit}
use Rattle.mcode.specs.Machine.{Bindings, jump}
use Rattle.mcode.specs.Program.{Program}
use Rattle.mcode.specs.declared.kind.Kind.{Kind}
use Rattle.mspec_syntax.specs.declared.mode.Mode.{Mode}
use Rattle.mspec_match.specs.Failure.{failed}
use Rattle.mspec_meaning.specs.Made.{or_failed}
use Rattle.compiler_assembly.specs.Stands.{Stands}
use Rattle.compiler_assembly.specs.Assembled.{resolved}
use Rattle.compiler_expressions.specs.Expressions.{failure, exit_lines, cell_lines}
use Rattle.compiler.specs.Reach.{at, Comes, Lands}
use Rattle.compiler.specs.Spread.{spread, HasCells}
use Rattle.compiler.proofs.FailLemmas.{IsSite, after, fails, succeeds}
use Rattle.compiler.proofs.ReachLemmas.{comes_by, comes_then, comes_landing}

-- if a list as a tail exceeds a limit, so does the list
past_more : (h t head : Datum) → is_past_limits (cons h t) ≡ true → is_past_limits (cons head (cons h t)) ≡ true
past_more h t head past =
    elim (or_cases (nat_lt depth_limit (depth (cons h t))) (is_too_long (cons h t)) past) [
      | inl z ↦
          let deep : depth_limit < depth (cons h t) = ltb-true depth_limit (depth (cons h t)) z in
          let more : depth_limit < depth (cons head (cons h t)) = omega arith in
          rw (lt-ltb depth_limit (depth (cons head (cons h t))) more) refl
      | inr z ↦
          let long : list_limit < cell_count (cons h t) = ltb-true list_limit (cell_count (cons h t)) z in
          let more : list_limit < cell_count (cons head (cons h t)) = omega arith in
          or_true (nat_lt depth_limit (depth (cons head (cons h t)))) _ (lt-ltb list_limit (cell_count (cons head (cons h t))) more)
    ]
  where
    or_true : (a b : Bool) → b ≡ true → (a || b) ≡ true
    or_true true b e = refl
    or_true false b e = e

-- the cell of a list after n elements: it is on the stack in two places, or in one
record IsCell (n : ℕ) (d : Datum) (base : List Datum) : Type 0 where
  head : Datum
  tail : Datum
  above : List Datum
  apart : spread (suc n) d base ≡ tail ∷ head ∷ (above ++ base)
  together : spread n d base ≡ cons head tail ∷ (above ++ base)
  part : is_past_limits (cons head tail) ≡ true → is_past_limits d ≡ true
  whole : n ≡ 0 → d ≡ cons head tail

cell_at : (n : ℕ) (d : Datum) (base : List Datum) → HasCells (suc n) d → IsCell n d base
cell_at zero (cons head tail) base h = record { head = head; tail = tail; above = []; apart = refl; together = refl; part = λ e. e; whole = λ e. refl }
cell_at (suc n) (cons first (cons head tail)) base h =
    let inner = cell_at n (cons head tail) (first ∷ base) h in
    let moved : inner.above ++ first ∷ base ≡ (inner.above ++ first ∷ []) ++ base = sym (append_assoc inner.above (first ∷ []) base) in
    record {
      head = inner.head;
      tail = inner.tail;
      above = inner.above ++ first ∷ [];
      apart = inner.apart ∙ ap (λ l. inner.tail ∷ inner.head ∷ l) moved;
      together = inner.together ∙ ap (λ l. cons inner.head inner.tail ∷ l) moved;
      part = λ e. past_more head tail first (inner.part e);
      whole = λ e. absurd (omega (arith, e));
    }
cell_at n d base h = absurd h

-- the list that results once all its cells are made, if each is within the limits
abbrev checked : ℕ → Datum → Option Datum
checked zero d = Some d
checked (suc n) d = within_limits d

checked_past : (n : ℕ) (d : Datum) → is_past_limits d ≡ true → checked (suc n) d ≡ None
checked_past n d e = rw e refl

checked_within : (n : ℕ) (d : Datum) → (n ≡ 0 → is_past_limits d ≡ false) → checked n d ≡ checked (suc n) d
checked_within zero d e = rw (e refl) refl
checked_within (suc n) d e = refl

module _ (p : Program) (o : Datum) (frame_slots : List ℕ) (behind : ℕ) (site : IsSite p behind) (slots : Bindings) (mode : Mode) (depth' : ℕ) (integers : List (ℕ × Kind)) (base : List Datum) (deep : length base ≡ depth') where
  -- the cells are made from the last to the first
  pub cells_run : (n q e r : ℕ) (d : Datum) → HasCells n d → Stands p frame_slots behind q (cell_lines mode n) → q + n ≡ e → Stands p frame_slots behind e (exit_lines mode depth' integers) → e + length (exit_lines mode depth' integers) ≡ r → Comes p o (at q (spread n d base) slots) (after behind r base slots (or_failed mode (checked n d)))
  cells_run zero q e r d cells stands there ends end =
      let start : q ≡ e = omega (arith, there) in
      subst (λ n. Comes p o (at n (d ∷ base) slots) (at r (d ∷ base) slots)) (sym start)
      (subst (λ n. Comes p o (at e (d ∷ base) slots) (at n (d ∷ base) slots)) end
      (succeeds p o frame_slots behind site slots mode depth' integers e base d ends deep))
  cells_run (suc n) q e r d cells stands there ends end =
      let cell = cell_at n d base cells in
      let far : suc q + suc n ≡ suc e = omega (arith, there) in
      let on : suc q + n ≡ e = omega (arith, there) in
      let failing = fails p o frame_slots behind site slots mode depth' integers q e (suc n) cell.above base ends far deep in
      let rest = cells_run n (suc q) e r d (fewer n d cells) stands.1 on ends end in
      one cell.head cell.tail cell.above cell.apart cell.together (is_past_limits (cons cell.head cell.tail)) refl cell.part cell.whole failing rest
    where
      fewer : (n : ℕ) (d : Datum) → HasCells (suc n) d → HasCells n d
      fewer zero d h = tt
      fewer (suc n) (cons head tail) h = fewer n tail h
      fewer (suc n) d h = absurd h

      Failing : (above : List Datum) → Type 0
      Failing above = Lands p o (jump p (resolved behind q (failure mode (suc n))) (above ++ base) slots) (after behind (e + length (exit_lines mode depth' integers)) base slots (failed mode))

      one : (head tail : Datum) (above : List Datum) → spread (suc n) d base ≡ tail ∷ head ∷ (above ++ base) → spread n d base ≡ cons head tail ∷ (above ++ base) → (past : Bool) → is_past_limits (cons head tail) ≡ past → (is_past_limits (cons head tail) ≡ true → is_past_limits d ≡ true) → (n ≡ 0 → d ≡ cons head tail) → Failing above → Comes p o (at (suc q) (spread n d base) slots) (after behind r base slots (or_failed mode (checked n d))) → Comes p o (at q (spread (suc n) d base) slots) (after behind r base slots (or_failed mode (checked (suc n) d)))
      one head tail above apart together true is part whole failing rest =
          let none : checked (suc n) d ≡ None = checked_past n d (part is) in
          let fail = subst (λ m. Lands p o (jump p (resolved behind q (failure mode (suc n))) (above ++ base) slots) (after behind m base slots (failed mode))) end failing in
          rw apart (rw none
          (comes_landing p o (at q (tail ∷ head ∷ (above ++ base)) slots) _ _ stands.0.instruction (rw is fail)))
      one head tail above apart together false is part whole failing rest =
          let within : checked n d ≡ checked (suc n) d = checked_within n d (λ z. ap is_past_limits (whole z) ∙ is) in
          let step : Comes p o (at q (tail ∷ head ∷ (above ++ base)) slots) (at (suc q) (cons head tail ∷ (above ++ base)) slots) =
          comes_by p o (at q (tail ∷ head ∷ (above ++ base)) slots) (at (suc q) (cons head tail ∷ (above ++ base)) slots) _ stands.0.instruction (rw is refl) in
          let rest' : Comes p o (at (suc q) (cons head tail ∷ (above ++ base)) slots) (after behind r base slots (or_failed mode (checked (suc n) d))) =
          rw (← together) (rw (← within) rest) in
          rw apart (comes_then p o (at q (tail ∷ head ∷ (above ++ base)) slots) (at (suc q) (cons head tail ∷ (above ++ base)) slots) _ step rest')
