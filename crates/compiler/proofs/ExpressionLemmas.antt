-- The code of an expression pushes its value, or leads to the clause's end if it has none.
use Rattle.std.proofs.Common.{◌≡◌, ℕ, zero, suc, ◌+◌, true, false, List, [], ◌∷◌, ◌++◌, length, refl, sym, ◌∙◌, ap, subst, arith, Option, Some, None}
use Rattle.std.specs.Option.{IsSome, option_map}
use Rattle.std.proofs.lemmas.Bool.{eqb-true}
use Rattle.std.proofs.lemmas.List.{length-append}
use Rattle.term_core.specs.Datum.{Datum, Entries, cells, items_of, entry_keys, entry_values}
use Rattle.term_core.specs.Datum.Datum.{tuple, nil, cons, map as table}
use Rattle.term_core.specs.Limits.{within_limits}
use Rattle.mspec_syntax.specs.Keys.{AreKeysRising}
use Rattle.term_operand.specs.Operand.{boolean}
use Rattle.term_core.specs.Datum.Entries.{no_entries, entry}
use Rattle.prims_table.specs.declared.prim.Primitive.TheVariants as prim
use Rattle.prims.specs.Calls.{function_of}
use Rattle.mcode.specs.Machine.{Bindings, tuple_made, map_made, push_or_jump}
use Rattle.mcode.specs.Program.{Program, frame_at}
use Rattle.mcode.specs.declared.kind.Kind.{Kind}
use Rattle.mcode.specs.declared.kind.Kind.TheVariants as kind
use Rattle.mspec_syntax.specs.Expression.{Expression, Expressions, Assignments, expression_count, assignment_keys}
use Rattle.mspec_syntax.specs.Expression.Expression.{bound, object, bindings, constant, quoted, call, and_also, or_else, new_tuple, new_cell, new_map}
use Rattle.mspec_syntax.specs.Expression.Expressions.{no_expressions, expression}
use Rattle.mspec_syntax.specs.Expression.Assignments.{no_assignments, assignment}
use Rattle.mspec_syntax.specs.Grammar.{is_among}
use Rattle.mspec_syntax.specs.Mode.{Position}
use Rattle.mspec_syntax.specs.Mode.Position.{by_itself, as_tail}
use Rattle.mspec_syntax.specs.Rising.{rank_of}
use Rattle.mspec_syntax.specs.Sound.{IsSoundExpression, AreSoundExpressions, AreSoundAssignments}
use Rattle.mspec_syntax.specs.declared.mode.Mode.{Mode}
use Rattle.mspec_syntax.specs.declared.mode.Mode.TheVariants.{Condition, Body}
use Rattle.mspec_match.specs.Match.{Substitution, domain, lookup}
use Rattle.mspec_match.specs.Failure.{failed}
use Rattle.mspec_meaning.specs.Made.{made_of}
use Rattle.mspec_meaning.specs.Called.{called}
use Rattle.mspec_meaning.specs.Meaning.{before, at_key, joined, value_at, argument_values, entry_values as pair_values, all_true, any_true}
use Rattle.mspec_meaning.proofs.MeaningLemmas.{value-some, lookup-some}
use Rattle.compiler_assembly.specs.Assembled.{resolved}
use Rattle.compiler_assembly.specs.Line.{SourceLine, plain, before_label}
use Rattle.compiler_assembly.specs.Stands.{IsAt, Stands}
use Rattle.compiler_assembly.specs.declared.op.Op.TheVariants as op
use Rattle.compiler_assembly.specs.declared.op.Target.TheVariants.{Ahead}
use Rattle.compiler_assembly.proofs.StandLemmas.{stands_front, stands_back}
use Rattle.compiler_expressions.specs.Expressions.{Site, failure, exit_lines, cell_lines, cell_count, all_true_lines, lines_at, argument_lines, value_lines, test_lines, choice_lines}
use Rattle.compiler.specs.Reach.{at, Comes}
use Rattle.compiler.specs.Shown.{AreShown}
use Rattle.compiler.specs.Spread.{spread, HasCells}
use Rattle.compiler.proofs.ArithmeticLemmas.{arithmetic_run}
use Rattle.compiler.proofs.BindingLemmas.{shown_binding, bindings_run}
use Rattle.compiler.proofs.ChoiceLemmas.{inside_frame, and_run, all_true_run, none_true_run, or_run}
use Rattle.compiler.proofs.FailLemmas.{IsSite, after}
use Rattle.compiler_expressions.proofs.EndLemmas.{count_at, itself, tail_count, choice_exit, choice_framed}
use Rattle.compiler_expressions.proofs.ListedLemmas.{keys_listed, map_is_made}
use Rattle.compiler.proofs.ListLemmas.{cells_run}
use Rattle.compiler.proofs.MadeLemmas.{after_places, after_spread, one_spread, spread_one, made_run}
use Rattle.compiler.proofs.PushLemmas.{const_runs, get_runs, load_runs, replaced}
use Rattle.compiler.proofs.ReachLemmas.{comes_here, comes_then, comes_same}

missing : (v : Option Datum) → v ≡ None → IsSome v → ⊥
missing None e h = absurd (cc)
missing (Some d) e h = absurd (cc)

abbrev the_list : List Datum → List Datum
the_list ds = ds

-- ---- values of several expressions

argument_count : (mode : Mode) (es : Expressions) (s : Substitution) (o : Datum) (ds : List Datum) → argument_values mode es s o ≡ Some ds → expression_count es ≡ length ds
argument_count mode no_expressions s o [] e = refl
argument_count mode no_expressions s o (d ∷ ds) e = absurd (cc)
argument_count mode (expression e es) s o ds h = by (value_at mode e by_itself s o) (argument_values mode es s o) (λ xs k. argument_count mode es s o xs k) ds h
  where
    by : (a : Option Datum) (b : Option (List Datum)) → ((xs : List Datum) → b ≡ Some xs → expression_count es ≡ length xs) → (ds : List Datum) → before a b ≡ Some ds → suc (expression_count es) ≡ length ds
    by None None more ds h = absurd (cc)
    by None (Some ys) more ds h = absurd (cc)
    by (Some x) None more ds h = absurd (cc)
    by (Some x) (Some ys) more [] h = absurd (cc)
    by (Some x) (Some ys) more (d ∷ ds) h = let same : ys ≡ ds = cc in ap suc (more ys refl ∙ ap length same)

pair_keys : (mode : Mode) (ms : Assignments) (s : Substitution) (o : Datum) (es : Entries) → pair_values mode ms s o ≡ Some es → entry_keys es ≡ assignment_keys ms
pair_keys mode no_assignments s o es h = let same : no_entries ≡ es = cc in ap entry_keys (sym same)
pair_keys mode (assignment k e ms) s o es h = by (value_at mode e by_itself s o) (pair_values mode ms s o) (λ xs m. pair_keys mode ms s o xs m) es h
  where
    by : (a : Option Datum) (b : Option Entries) → ((xs : Entries) → b ≡ Some xs → entry_keys xs ≡ assignment_keys ms) → (es : Entries) → at_key k a b ≡ Some es → entry_keys es ≡ k ∷ assignment_keys ms
    by None None more es h = absurd (cc)
    by None (Some ys) more es h = absurd (cc)
    by (Some x) None more es h = absurd (cc)
    by (Some x) (Some ys) more es h =
        let same : entry k x ys ≡ es = cc in ap entry_keys (sym same) ∙ ap (λ l. k ∷ l) (more ys refl)

values_count : (es : Entries) → length (entry_values es) ≡ length (entry_keys es)
values_count no_entries = refl
values_count (entry k v es) = ap suc (values_count es)

-- the value of a tail has the cells that are made
tail_cells : (mode : Mode) (f : Expression) (s : Substitution) (o t : Datum) → value_at mode f as_tail s o ≡ Some t → HasCells (cell_count f) t
tail_cells mode (new_cell e f) s o t h = by (value_at mode e by_itself s o) (value_at mode f as_tail s o) (λ x k. tail_cells mode f s o x k) t h
  where
    by : (a b : Option Datum) → ((x : Datum) → b ≡ Some x → HasCells (cell_count f) x) → (t : Datum) → joined a b ≡ Some t → HasCells (suc (cell_count f)) t
    by None None more t h = absurd (cc)
    by None (Some y) more t h = absurd (cc)
    by (Some x) None more t h = absurd (cc)
    by (Some x) (Some y) more t h = let same : cons x y ≡ t = cc in subst (HasCells (suc (cell_count f))) same (more y refl)
tail_cells mode f s o t h = tt

-- ---- one part after another

module _ (p : Program) (o : Datum) (behind : ℕ) (slots : Bindings) where
  first_then : (a : Option Datum) (b : Option (List Datum)) (pc q r : ℕ) (base : List Datum) → Comes p o (at pc base slots) (after behind q base slots a) → ((d : Datum) → Comes p o (at q (d ∷ base) slots) (after_places the_list behind r (d ∷ base) slots b)) → Comes p o (at pc base slots) (after_places the_list behind r base slots (before a b))
  first_then None None pc q r base h k = h
  first_then None (Some ds) pc q r base h k = h
  first_then (Some d) None pc q r base h k = comes_then p o (at pc base slots) (at q (d ∷ base) slots) _ h (k d)
  first_then (Some d) (Some ds) pc q r base h k = comes_then p o (at pc base slots) (at q (d ∷ base) slots) _ h (k d)

  pair_then : (key : Datum) (a : Option Datum) (b : Option Entries) (pc q r : ℕ) (base : List Datum) → Comes p o (at pc base slots) (after behind q base slots a) → ((d : Datum) → Comes p o (at q (d ∷ base) slots) (after_places entry_values behind r (d ∷ base) slots b)) → Comes p o (at pc base slots) (after_places entry_values behind r base slots (at_key key a b))
  pair_then key None None pc q r base h k = h
  pair_then key None (Some es) pc q r base h k = h
  pair_then key (Some d) None pc q r base h k = comes_then p o (at pc base slots) (at q (d ∷ base) slots) _ h (k d)
  pair_then key (Some d) (Some es) pc q r base h k = comes_then p o (at pc base slots) (at q (d ∷ base) slots) _ h (k d)

  head_then : (a b : Option Datum) (n pc q r : ℕ) (base : List Datum) → Comes p o (at pc base slots) (after behind q base slots a) → ((d : Datum) → Comes p o (at q (d ∷ base) slots) (after_spread behind r n (d ∷ base) slots b)) → Comes p o (at pc base slots) (after_spread behind r (suc n) base slots (joined a b))
  head_then None None n pc q r base h k = h
  head_then None (Some t) n pc q r base h k = h
  head_then (Some d) None n pc q r base h k = comes_then p o (at pc base slots) (at q (d ∷ base) slots) _ h (k d)
  head_then (Some d) (Some t) n pc q r base h k = comes_then p o (at pc base slots) (at q (d ∷ base) slots) _ h (k d)

module _ (p : Program) (o : Datum) (frame_slots : List ℕ) (behind : ℕ) (site : IsSite p behind) (slots : Bindings) (w : Site) (s : Substitution) (dom : domain s ≡ w.bound) (shown : AreShown w.slots slots s) where
  known : (n : ℕ) → is_among w.bound n ≡ true → IsSome (lookup s n)
  known n h = lookup-some s n (ap (λ l. is_among l n) dom ∙ h)

  -- a value can only be missing in a condition
  sure : (e : Expression) → IsSoundExpression w.bound e → value_at w.mode e by_itself s o ≡ None → failed w.mode ≡ None
  sure e sound none = by w.mode refl none
    where
      by : (mode : Mode) → w.mode ≡ mode → value_at mode e by_itself s o ≡ None → failed mode ≡ None
      by Condition is none = refl
      by Body is none = absurd (missing (value_at Body e by_itself s o) none (value-some w.bound s o known e by_itself sound))

  get_run : (v : Option Datum) (n pc r : ℕ) (base : List Datum) → lookup s n ≡ v → IsSome v → IsAt p frame_slots behind pc (plain (op.Get (rank_of w.slots n))) → pc + 1 ≡ r → Comes p o (at pc base slots) (after_spread behind r 0 base slots v)
  get_run None n pc r base is some stands end = absurd (cc)
  get_run (Some d) n pc r base is some stands end =
      let there : suc pc ≡ r = omega (arith, end) in
      comes_same p o (at pc base slots) _ _ (ap (λ m. at m (d ∷ base) slots) there)
      (get_runs p o frame_slots behind slots pc (rank_of w.slots n) base d stands (shown_binding w.slots slots s n d shown is))

  term_run : (d : Datum) (pc r : ℕ) (base : List Datum) → IsAt p frame_slots behind pc (plain (op.Const d)) → pc + 1 ≡ r → Comes p o (at pc base slots) (at r (d ∷ base) slots)
  term_run d pc r base stands end =
      let there : suc pc ≡ r = omega (arith, end) in
      comes_same p o (at pc base slots) _ _ (ap (λ m. at m (d ∷ base) slots) there) (const_runs p o frame_slots behind slots pc base d stands)

  -- the run of the cells of a list that isn't itself a tail
  list_run : (v : Option Datum) (n pc q r deep : ℕ) (integers : List (ℕ × Kind)) (base : List Datum) → length base ≡ deep → ((d : Datum) → v ≡ Some d → HasCells (suc n) d) → Comes p o (at pc base slots) (after_spread behind q (suc n) base slots v) → Stands p frame_slots behind q (cell_lines w.mode (suc n)) → Stands p frame_slots behind (q + suc n) (exit_lines w.mode deep integers) → q + suc n + length (exit_lines w.mode deep integers) ≡ r → Comes p o (at pc base slots) (after behind r base slots (made_of w.mode v))
  list_run None n pc q r deep integers base count has run stands exit end = run
  list_run (Some d) n pc q r deep integers base count has run stands exit end =
      comes_then p o (at pc base slots) (at q (spread (suc n) d base) slots) _ run
      (cells_run p o frame_slots behind site slots w.mode deep integers base count (suc n) q (q + suc n) r d (has d refl) stands refl exit end)

  cell_length : (mode : Mode) (n : ℕ) → length (cell_lines mode n) ≡ n
  cell_length mode zero = refl
  cell_length mode (suc n) = ap suc (cell_length mode n)

  -- the last lines of a list that isn't itself a tail come after its elements
  list_ends : (ls : List SourceLine) (n pc r deep : ℕ) (integers : List (ℕ × Kind)) (base : List Datum) (v : Option Datum) → length base ≡ deep → ((d : Datum) → v ≡ Some d → HasCells (suc n) d) → Stands p frame_slots behind pc (ls ++ (cell_lines w.mode (suc n) ++ exit_lines w.mode deep integers)) → pc + length (ls ++ (cell_lines w.mode (suc n) ++ exit_lines w.mode deep integers)) ≡ r → Comes p o (at pc base slots) (after_spread behind (pc + length ls) (suc n) base slots v) → Comes p o (at pc base slots) (after behind r base slots (made_of w.mode v))
  list_ends ls n pc r deep integers base v count has stands end run =
      let cell = cell_lines w.mode (suc n) in
      let exit = exit_lines w.mode deep integers in
      let q = pc + length ls in
      let back = stands_back p frame_slots behind pc ls (cell ++ exit) stands in
      let many : length cell ≡ suc n = cell_length w.mode (suc n) in
      let exits = subst (λ m. Stands p frame_slots behind (q + m) exit) many (stands_back p frame_slots behind q cell exit back) in
      let end' : q + suc n + length exit ≡ r = omega (arith, end, many, length-append ls (cell ++ exit), length-append cell exit) in
      list_run v n pc q r deep integers base count has run (stands_front p frame_slots behind q cell exit back) exits end'

  -- the run of an element and what follows it
  cell_run : (e f : Expression) (pc r deep : ℕ) (integers : List (ℕ × Kind)) (base : List Datum) → length base ≡ deep → Stands p frame_slots behind pc (lines_at w deep integers e by_itself ++ lines_at w (suc deep) integers f as_tail) → pc + length (lines_at w deep integers e by_itself ++ lines_at w (suc deep) integers f as_tail) ≡ r → (Stands p frame_slots behind pc (lines_at w deep integers e by_itself) → Comes p o (at pc base slots) (after_spread behind (pc + length (lines_at w deep integers e by_itself)) (count_at e by_itself) base slots (value_at w.mode e by_itself s o))) → ((d : Datum) (q : ℕ) → length (d ∷ base) ≡ suc deep → Stands p frame_slots behind q (lines_at w (suc deep) integers f as_tail) → q + length (lines_at w (suc deep) integers f as_tail) ≡ r → Comes p o (at q (d ∷ base) slots) (after_spread behind r (count_at f as_tail) (d ∷ base) slots (value_at w.mode f as_tail s o))) → Comes p o (at pc base slots) (after_spread behind r (suc (cell_count f)) base slots (joined (value_at w.mode e by_itself s o) (value_at w.mode f as_tail s o)))
  cell_run e f pc r deep integers base count stands end run_head run_tail =
      let front = lines_at w deep integers e by_itself in
      let rest = lines_at w (suc deep) integers f as_tail in
      let q = pc + length front in
      let end' : q + length rest ≡ r = omega (arith, end, length-append front rest) in
      let run1 = spread_one p o (at pc base slots) behind q base slots _ (rw (itself e) at (run_head (stands_front p frame_slots behind pc front rest stands))) in
      head_then p o behind slots (value_at w.mode e by_itself s o) (value_at w.mode f as_tail s o) (cell_count f) pc q r base run1
      (λ d. let more : length (d ∷ base) ≡ suc deep = omega (arith, count) in
      rw (tail_count f) at (run_tail d q more (stands_back p frame_slots behind pc front rest stands) end'))

  mutual
    pub expression_run : (e : Expression) (position : Position) (pc r deep : ℕ) (integers : List (ℕ × Kind)) (base : List Datum) → IsSoundExpression w.bound e → length base ≡ deep → Stands p frame_slots behind pc (lines_at w deep integers e position) → pc + length (lines_at w deep integers e position) ≡ r → Comes p o (at pc base slots) (after_spread behind r (count_at e position) base slots (value_at w.mode e position s o))
    expression_run (bound n) position pc r deep integers base sound count stands end =
        get_run (lookup s n) n pc r base refl (known n sound) stands.0 end
    expression_run object position pc r deep integers base sound count stands end =
        let there : suc pc ≡ r = omega (arith, end) in
        comes_same p o (at pc base slots) _ _ (ap (λ m. at m (o ∷ base) slots) there) (load_runs p o frame_slots behind slots pc base (plain op.Load) stands.0 refl)
    expression_run bindings position pc r deep integers base sound count stands end =
        one_spread p o (at pc base slots) behind r base slots _
        (bindings_run p o frame_slots behind site slots w deep integers base count s pc r dom shown stands end)
    expression_run (constant d) position pc r deep integers base sound count stands end =
        term_run d pc r base stands.0 end
    expression_run (quoted d) position pc r deep integers base sound count stands end =
        term_run d pc r base stands.0 end
    expression_run (call (prim.Function f) es) position pc r deep integers base sound count stands end =
        let front = argument_lines w deep integers es in
        let rest = plain (op.Call f (expression_count es) (failure w.mode 1)) ∷ exit_lines w.mode deep integers in
        let q = pc + length front in
        let back = stands_back p frame_slots behind pc front rest stands in
        let run = argument_run es pc q deep integers base sound.1 count (stands_front p frame_slots behind pc front rest stands) refl in
        let end' : suc q + length (exit_lines w.mode deep integers) ≡ r = omega (arith, end, length-append front rest) in
        one_spread p o (at pc base slots) behind r base slots _
        (made_run p o frame_slots behind site slots w.mode deep integers base count the_list (argument_values w.mode es s o) (called w.mode (prim.Function f)) (function_of (prim.Function f)) pc q r _ refl (λ ds. refl) run back.0.instruction
        (λ ds is.
        rw sound.0 (rw (argument_count w.mode es s o ds is) (replaced p o frame_slots behind slots q (resolved behind q (failure w.mode 1)) ds base (function_of (prim.Function f)))))
        back.1 end')
    expression_run (call (prim.Arithmetic f) no_expressions) position pc r deep integers base sound count stands end =
        absurd (let no = sound.0 in cc)
    expression_run (call (prim.Arithmetic f) (expression e no_expressions)) position pc r deep integers base sound count stands end =
        absurd (let no = sound.0 in cc)
    expression_run (call (prim.Arithmetic f) (expression e (expression e' (expression e'' es)))) position pc r deep integers base sound count stands end =
        absurd (let many : suc (suc (suc (expression_count es))) ≡ 2 = eqb-true _ _ sound.0 in omega (arith, many))
    expression_run (call (prim.Arithmetic f) (expression e (expression e' no_expressions))) position pc r deep integers base sound count stands end =
        let first = lines_at w deep integers e by_itself in
        let second = lines_at w (suc deep) (integers ++ (deep, kind.Int) ∷ []) e' by_itself in
        let n = length second + 3 in
        let last = plain (op.Int (failure w.mode 2)) ∷ plain (op.Arith f (failure w.mode 1)) ∷ [] in
        let middle = plain (op.Int (failure w.mode n)) ∷ (second ++ last) in
        let exit = exit_lines w.mode deep integers in
        let q1 = pc + length first in
        let q2 = suc q1 + length second in
        let all = stands_front p frame_slots behind pc (first ++ middle) exit stands in
        let exits = stands_back p frame_slots behind pc (first ++ middle) exit stands in
        let behind_first = stands_back p frame_slots behind pc first middle all in
        let behind_second = stands_back p frame_slots behind (suc q1) second last behind_first.1 in
        let there : pc + length (first ++ middle) ≡ suc (suc q2) = omega (arith, length-append first middle, length-append second last) in
        let exits' = subst (λ m. Stands p frame_slots behind m exit) there exits in
        let far : suc q1 + n ≡ suc (suc (suc q2)) = omega arith in
        let end' : suc (suc q2) + length exit ≡ r = omega (arith, end, there, length-append (first ++ middle) exit) in
        let run1 = spread_one p o (at pc base slots) behind q1 base slots _ (rw (itself e) at (expression_run e by_itself pc q1 deep integers base sound.1.0 count (stands_front p frame_slots behind pc first middle all) refl)) in
        let run2 = λ (d : Datum). let more : length (d ∷ base) ≡ suc deep = omega (arith, count) in
        spread_one p o (at (suc q1) (d ∷ base) slots) behind q2 (d ∷ base) slots _ (rw (itself e') at (expression_run e' by_itself (suc q1) q2 (suc deep) (integers ++ (deep, kind.Int) ∷ []) (d ∷ base) sound.1.1.0 more (stands_front p frame_slots behind (suc q1) second last behind_first.1) refl)) in
        one_spread p o (at pc base slots) behind r base slots _
        (arithmetic_run p o frame_slots behind site slots w.mode deep integers base count f pc q1 q2 r n behind_first.0 behind_second.0 behind_second.1.0 far exits' end' (value_at w.mode e by_itself s o) (value_at w.mode e' by_itself s o) (sure e' sound.1.1.0) run1 run2)
    expression_run (and_also es) position pc r deep integers base sound count stands end =
        let tests = test_lines w deep integers es in
        let ending = all_true_lines w.mode deep integers in
        let e = pc + length tests in
        let end' : e + length ending ≡ r = omega (arith, end, length-append tests ending) in
        one_spread p o (at pc base slots) behind r base slots _
        (test_run es pc e r deep integers base sound.1 count (stands_front p frame_slots behind pc tests ending stands) refl (stands_back p frame_slots behind pc tests ending stands) end')
    expression_run (or_else es) position pc r deep integers base sound count stands end =
        one_spread p o (at pc base slots) behind r base slots _ (choice_run es pc r deep integers base sound.1 count stands end)
    expression_run (new_tuple es) position pc r deep integers base sound count stands end =
        let front = argument_lines w deep integers es in
        let rest = plain (op.MakeTuple (expression_count es) (failure w.mode 1)) ∷ exit_lines w.mode deep integers in
        let q = pc + length front in
        let back = stands_back p frame_slots behind pc front rest stands in
        let run = argument_run es pc q deep integers base sound count (stands_front p frame_slots behind pc front rest stands) refl in
        let end' : suc q + length (exit_lines w.mode deep integers) ≡ r = omega (arith, end, length-append front rest) in
        one_spread p o (at pc base slots) behind r base slots _
        (made_run p o frame_slots behind site slots w.mode deep integers base count the_list (argument_values w.mode es s o) (λ v. made_of w.mode (option_map (λ ds. tuple (items_of ds)) v)) tuple_made pc q r _ refl (λ ds. refl) run back.0.instruction
        (λ ds is.
        rw (argument_count w.mode es s o ds is) (replaced p o frame_slots behind slots q (resolved behind q (failure w.mode 1)) ds base tuple_made))
        back.1 end')
    expression_run (new_map ms) position pc r deep integers base sound count stands end =
        let front = value_lines w deep integers ms in
        let keys = assignment_keys ms in
        let rest = plain (op.MakeMap (cells keys nil) (failure w.mode 1)) ∷ exit_lines w.mode deep integers in
        let q = pc + length front in
        let back = stands_back p frame_slots behind pc front rest stands in
        let run = value_run ms pc q deep integers base sound.1 count (stands_front p frame_slots behind pc front rest stands) refl in
        let end' : suc q + length (exit_lines w.mode deep integers) ≡ r = omega (arith, end, length-append front rest) in
        one_spread p o (at pc base slots) behind r base slots _
        (made_run p o frame_slots behind site slots w.mode deep integers base count entry_values (pair_values w.mode ms s o) (λ v. made_of w.mode (option_map table v)) (λ es. within_limits (table es)) pc q r _ refl
        (λ es. refl) run back.0.instruction
        (λ es is.
        let same : entry_keys es ≡ keys = pair_keys w.mode ms s o es is in
        let many : length keys ≡ length (entry_values es) = ap length (sym same) ∙ sym (values_count es) in
        let target = resolved behind q (failure w.mode 1) in
        let rising = subst AreKeysRising (sym same) sound.0.rising in
        let made_map : map_made keys (entry_values es) ≡ within_limits (table es) = ap (λ l. map_made l (entry_values es)) (sym same) ∙ map_is_made es rising in
        rw back.0.constant (rw (keys_listed keys sound.0.rising) (rw many (replaced p o frame_slots behind slots q target (entry_values es) base (map_made keys) ∙ ap (push_or_jump p q target base slots) made_map))))
        back.1 end')
    expression_run (new_cell e f) by_itself pc r deep integers base sound count stands end =
        let ls = lines_at w deep integers e by_itself ++ lines_at w (suc deep) integers f as_tail in
        let front = stands_front p frame_slots behind pc ls _ stands in
        one_spread p o (at pc base slots) behind r base slots _
        (list_ends ls (cell_count f) pc r deep integers base (joined (value_at w.mode e by_itself s o) (value_at w.mode f as_tail s o)) count (λ d is. tail_cells w.mode (new_cell e f) s o d is) stands end
        (cell_run e f pc (pc + length ls) deep integers base count front refl
        (λ h. expression_run e by_itself pc (pc + length (lines_at w deep integers e by_itself)) deep integers base sound.0 count h refl)
        (λ d q more h there. expression_run f as_tail q (pc + length ls) (suc deep) integers (d ∷ base) sound.1 more h there)))
    expression_run (new_cell e f) as_tail pc r deep integers base sound count stands end =
        cell_run e f pc r deep integers base count stands end
        (λ h. expression_run e by_itself pc (pc + length (lines_at w deep integers e by_itself)) deep integers base sound.0 count h refl)
        (λ d q more h there. expression_run f as_tail q r (suc deep) integers (d ∷ base) sound.1 more h there)

    argument_run : (es : Expressions) (pc r deep : ℕ) (integers : List (ℕ × Kind)) (base : List Datum) → AreSoundExpressions w.bound es → length base ≡ deep → Stands p frame_slots behind pc (argument_lines w deep integers es) → pc + length (argument_lines w deep integers es) ≡ r → Comes p o (at pc base slots) (after_places the_list behind r base slots (argument_values w.mode es s o))
    argument_run no_expressions pc r deep integers base sound count stands end =
        let there : pc ≡ r = omega (arith, end) in
        comes_same p o (at pc base slots) _ _ (ap (λ m. at m base slots) there) (comes_here p o (at pc base slots))
    argument_run (expression e es) pc r deep integers base sound count stands end =
        let front = lines_at w deep integers e by_itself in
        let rest = argument_lines w (suc deep) integers es in
        let q = pc + length front in
        let end' : q + length rest ≡ r = omega (arith, end, length-append front rest) in
        let run1 = spread_one p o (at pc base slots) behind q base slots _ (rw (itself e) at (expression_run e by_itself pc q deep integers base sound.0 count (stands_front p frame_slots behind pc front rest stands) refl)) in
        first_then p o behind slots (value_at w.mode e by_itself s o) (argument_values w.mode es s o) pc q r base run1
        (λ d. let more : length (d ∷ base) ≡ suc deep = omega (arith, count) in
        argument_run es q r (suc deep) integers (d ∷ base) sound.1 more (stands_back p frame_slots behind pc front rest stands) end')

    value_run : (ms : Assignments) (pc r deep : ℕ) (integers : List (ℕ × Kind)) (base : List Datum) → AreSoundAssignments w.bound ms → length base ≡ deep → Stands p frame_slots behind pc (value_lines w deep integers ms) → pc + length (value_lines w deep integers ms) ≡ r → Comes p o (at pc base slots) (after_places entry_values behind r base slots (pair_values w.mode ms s o))
    value_run no_assignments pc r deep integers base sound count stands end =
        let there : pc ≡ r = omega (arith, end) in
        comes_same p o (at pc base slots) _ _ (ap (λ m. at m base slots) there) (comes_here p o (at pc base slots))
    value_run (assignment k e ms) pc r deep integers base sound count stands end =
        let front = lines_at w deep integers e by_itself in
        let rest = value_lines w (suc deep) integers ms in
        let q = pc + length front in
        let end' : q + length rest ≡ r = omega (arith, end, length-append front rest) in
        let run1 = spread_one p o (at pc base slots) behind q base slots _ (rw (itself e) at (expression_run e by_itself pc q deep integers base sound.1 count (stands_front p frame_slots behind pc front rest stands) refl)) in
        pair_then p o behind slots k (value_at w.mode e by_itself s o) (pair_values w.mode ms s o) pc q r base run1
        (λ d. let more : length (d ∷ base) ≡ suc deep = omega (arith, count) in
        value_run ms q r (suc deep) integers (d ∷ base) sound.2 more (stands_back p frame_slots behind pc front rest stands) end')

    test_run : (es : Expressions) (pc e r deep : ℕ) (integers : List (ℕ × Kind)) (base : List Datum) → AreSoundExpressions w.bound es → length base ≡ deep → Stands p frame_slots behind pc (test_lines w deep integers es) → pc + length (test_lines w deep integers es) ≡ e → Stands p frame_slots behind e (all_true_lines w.mode deep integers) → e + length (all_true_lines w.mode deep integers) ≡ r → Comes p o (at pc base slots) (after behind r base slots (all_true w.mode es s o))
    test_run no_expressions pc e r deep integers base sound count stands there ending end =
        let here : pc ≡ e = omega (arith, there) in
        subst (λ m. Comes p o (at m base slots) (after behind r base slots (all_true w.mode no_expressions s o))) (sym here)
        (all_true_run p o frame_slots behind site slots deep integers base count w.mode e r ending end)
    test_run (expression x es) pc e r deep integers base sound count stands there ending end =
        let front = lines_at w deep integers x by_itself in
        let others = test_lines w deep integers es in
        let n = length others in
        let rest = plain (op.Bool (failure w.mode (n + 5))) ∷ plain (op.Branch (Ahead (n + 2))) ∷ others in
        let q = pc + length front in
        let back = stands_back p frame_slots behind pc front rest stands in
        let far : suc (suc q) + n ≡ e = omega (arith, there, length-append front rest) in
        let run1 = spread_one p o (at pc base slots) behind q base slots _ (rw (itself x) at (expression_run x by_itself pc q deep integers base sound.0 count (stands_front p frame_slots behind pc front rest stands) refl)) in
        and_run p o frame_slots behind site slots deep integers base count w.mode (value_at w.mode x by_itself s o) (all_true w.mode es s o) pc q n e r run1 back.0 back.1.0 far ending end
        (test_run es (suc (suc q)) e r deep integers base sound.1 count back.1.1 far ending end)

    choice_run : (es : Expressions) (pc r deep : ℕ) (integers : List (ℕ × Kind)) (base : List Datum) → AreSoundExpressions w.bound es → length base ≡ deep → Stands p frame_slots behind pc (choice_lines w deep integers es) → pc + length (choice_lines w deep integers es) ≡ r → Comes p o (at pc base slots) (after behind r base slots (any_true w.mode es s o))
    choice_run no_expressions pc r deep integers base sound count stands end =
        subst (λ m. Comes p o (at pc base slots) (at m (boolean false ∷ base) slots)) end
        (none_true_run p o frame_slots behind site slots deep integers base count w.mode pc stands)
    choice_run (expression x es) pc r deep integers base sound count stands end =
        let front = lines_at w deep integers x by_itself in
        let others = choice_lines w deep integers es in
        let n = length others in
        let rest = plain (op.Bool (failure w.mode (n + 2))) ∷ plain (op.Branch (Ahead 2)) ∷ plain (op.Const (boolean true)) ∷ before_label (op.Jump (Ahead n)) deep integers ∷ others in
        let q = pc + length front in
        let c = suc (suc (suc (suc q))) in
        let back = stands_back p frame_slots behind pc front rest stands in
        let far : c + n ≡ r = omega (arith, end, length-append front rest) in
        let last = suc (suc (q + n)) in
        let exit = choice_exit p frame_slots behind w es c last deep integers back.1.1.1.1 (omega arith) in
        let framed = subst (λ m. frame_at p.frames m ≡ Some (inside_frame m (suc deep) integers frame_slots)) far (choice_framed p frame_slots behind w es c deep integers back.1.1.1.1) in
        let run1 = spread_one p o (at pc base slots) behind q base slots _ (rw (itself x) at (expression_run x by_itself pc q deep integers base sound.0 count (stands_front p frame_slots behind pc front rest stands) refl)) in
        or_run p o frame_slots behind site slots deep integers base count w.mode (value_at w.mode x by_itself s o) (any_true w.mode es s o) pc q n last r run1 back.0 back.1.0 back.1.1.0 back.1.1.1.0 exit (omega (arith, far)) far framed
        (choice_run es c r deep integers base sound.1 count back.1.1.1.1 far)
