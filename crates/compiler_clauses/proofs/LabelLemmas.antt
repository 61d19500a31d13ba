-- Each label of the code of a specification makes a frame, which fits, at an instruction before the end.
use Rattle.std.proofs.Common.{◌≡◌, ◌∙◌, ℕ, zero, suc, ◌+◌, ◌<◌, ◌≤◌, ◌||◌, Bool, true, false, cond, inl, inr, Option, Some, None, option_map, List, [], ◌∷◌, ◌++◌, length, map, refl, sym, ap, arith, length-append}
use Rattle.std.specs.Prelude.{All, IfSome, sum_by}
use Rattle.std.proofs.lemmas.Bool.{cases_eq, eq-eqb, ne_eqb}
use Rattle.std.proofs.lemmas.List.Elements.{All-nil, All-cons, All-head, All-tail, All-push, All-weaker}
use Rattle.std.proofs.lemmas.List.Sums.{sum_by-cons}
use native.Mathlib.Numerals.{unary_clauses}
use Rattle.term_operand.specs.Operand.{boolean}
use Rattle.term_core.specs.Datum.{Datum, cells}
use Rattle.term_core.specs.Datum.Datum.{tuple, nil}
use Rattle.prims_table.specs.declared.prim.Primitive.TheVariants as prim
use Rattle.mcode.specs.Program.{Rise, IsFrame, IsTelling, place_number, most_parts}
use Rattle.mcode.specs.declared.kind.Kind.{Kind}
use Rattle.mcode.specs.declared.kind.Kind.TheVariants as kind
use Rattle.mcode.proofs.RiseLemmas.{rise_more}
use Rattle.mspec_syntax.specs.Expression.{Expression, Expressions, Assignments, expression_count, assignment_keys, expression_nodes, expressions_nodes, assignments_nodes}
use Rattle.mspec_syntax.specs.Expression.Expression.{bound, object, bindings, constant, quoted, call, and_also, or_else, new_tuple, new_cell, new_map}
use Rattle.mspec_syntax.specs.Expression.Expressions.{no_expressions, expression}
use Rattle.mspec_syntax.specs.Expression.Assignments.{no_assignments, assignment}
use Rattle.mspec_syntax.specs.Grammar.{is_among}
use Rattle.mspec_syntax.specs.Mode.{Position}
use Rattle.mspec_syntax.specs.Mode.Position.{by_itself, as_tail}
use Rattle.mspec_syntax.specs.Pattern.{Pattern, Patterns, Fields, pattern_variables, own_term, own_terms}
use Rattle.mspec_syntax.specs.Pattern.Pattern.{variable, anything, literal, tuple_of, cell_of, map_of}
use Rattle.mspec_syntax.specs.Pattern.Patterns.{no_patterns, pattern}
use Rattle.mspec_syntax.specs.Pattern.Fields.{no_fields, field}
use Rattle.mspec_syntax.specs.Rising.{rank_of}
use Rattle.mspec_syntax.specs.Specification.{Clause, Specification, clause_variables, clause_nodes, specification_nodes, specification_variables, heads_variables}
use Rattle.mspec_syntax.specs.declared.mode.Mode.{Mode}
use Rattle.mspec_syntax.specs.declared.mode.Mode.TheVariants.{Condition, Body}
use Rattle.mspec_syntax.proofs.RisingLemmas.{Rises, Rises-tail, Rises-rising}
use Rattle.compiler_assembly.specs.Assembled.{frame_of}
use Rattle.compiler_assembly.specs.Labels.{AllLabels, AllBlockLabels}
use Rattle.compiler_assembly.specs.Line.{SourceLabel, SourceLine, plain, before_label, line_total}
use Rattle.compiler_assembly.specs.declared.line.Label.TheVariants.{Inside, Clean}
use Rattle.compiler_assembly.specs.declared.op.Op.TheVariants as op
use Rattle.compiler_assembly.specs.declared.op.Target.TheVariants.{Failing, Ahead}
use Rattle.compiler_expressions.specs.Expressions.{Site, failure, exit_lines, cell_lines, cell_count, bindings_lines, all_true_lines, none_true_lines, lines_at, argument_lines, value_lines, test_lines, choice_lines}
use Rattle.compiler_expressions.proofs.LineLemmas.{get_line}
use Rattle.mspec_syntax.proofs.RankLemmas.{rank-below, among-first, among-rest}
use Rattle.compiler_patterns.specs.Leaves.{variable_lines}
use Rattle.compiler_patterns.specs.Patterns.{pattern_count, same_or, unless_anything, pattern_lines, element_lines, field_lines, head_lines}
use Rattle.compiler_clauses.specs.Clauses.{condition_lines, body_lines, site_of, clause_block, blocks_of}
use Rattle.compiler_clauses.specs.Labels.{AreIntegerPlaces, IsGoodLabel, AreGoodLabels}
use Rattle.compiler_clauses.specs.Writable.{AreAmong}
use Rattle.compiler_clauses.proofs.NodeLemmas.{nodes_at, some_nodes, parts_room}
use Rattle.compiler_clauses.proofs.VariableLemmas.{among_later, variables_inside}

-- ---- places that are integers

no_places : (n : ℕ) → AreIntegerPlaces [] n
no_places n =
    record {
      each = All-nil (λ place. (place_number place < n) × (place.1 ≡ kind.Int));
      rise = λ j d within. absurd (omega (arith, within));
      count = omega arith;
    }

places_higher : (places : List (ℕ × Kind)) (n : ℕ) → AreIntegerPlaces places n → AreIntegerPlaces places (suc n)
places_higher places n h =
    let count = h.count in
    record {
      each = All-weaker (λ place. (place_number place < n) × (place.1 ≡ kind.Int)) (λ place. (place_number place < suc n) × (place.1 ≡ kind.Int)) (λ x below. (omega (arith, below.0), below.1)) places h.each;
      rise = h.rise;
      count = omega (arith, count);
    }

places_more : (places : List (ℕ × Kind)) (n : ℕ) → AreIntegerPlaces places n → AreIntegerPlaces (places ++ (n, kind.Int) ∷ []) (suc n)
places_more places n h =
    let count = h.count in
    let higher = places_higher places n h in
    record {
      each = All-push (λ place. (place_number place < suc n) × (place.1 ≡ kind.Int)) places (n, kind.Int) higher.each (omega arith, refl);
      rise = rise_more place_number places (n, kind.Int) h.rise (λ k d is. (h.each k d (omega (arith, is))).0);
      count = omega (arith, count, length-append places ((n, kind.Int) ∷ []));
    }

-- ---- lines

module _ (most : ℕ) where
  good_append : (a b : List SourceLine) → AreGoodLabels most a → AreGoodLabels most b → AreGoodLabels most (a ++ b)
  good_append [] b first second = second
  good_append (l ∷ a) b first second = (first.0, good_append a b first.1 second)

  good_gets : (slots ns : List ℕ) → AreGoodLabels most (map (get_line slots) ns)
  good_gets slots [] = tt
  good_gets slots (n ∷ ns) = (tt, good_gets slots ns)

  good_cells : (mode : Mode) (n : ℕ) → AreGoodLabels most (cell_lines mode n)
  good_cells mode zero = tt
  good_cells mode (suc n) = (tt, good_cells mode n)

  module _ (deep : ℕ) (integers : List (ℕ × Kind)) (ints : AreIntegerPlaces integers deep) (more : suc deep ≤ most) where
    good_here : IsGoodLabel most (Inside deep integers)
    good_here = (omega (arith, more), ints)

    good_above : IsGoodLabel most (Inside (suc deep) integers)
    good_above = (more, places_higher integers deep ints)

    good_exit : (mode : Mode) → AreGoodLabels most (exit_lines mode deep integers)
    good_exit Condition = tt
    good_exit Body = (good_here, (good_above, tt))

    good_all_true : (mode : Mode) → AreGoodLabels most (all_true_lines mode deep integers)
    good_all_true Condition = (tt, (good_here, (good_above, tt)))
    good_all_true Body = (tt, (good_here, (tt, (good_here, (good_above, tt)))))

    good_none_true : (mode : Mode) → AreGoodLabels most (none_true_lines mode deep integers)
    good_none_true Condition = (good_above, tt)
    good_none_true Body = (tt, (good_here, (good_above, tt)))

    good_bindings : (site : Site) (ns : List ℕ) → AreGoodLabels most (bindings_lines site deep integers ns)
    good_bindings site [] = (tt, tt)
    good_bindings site (n ∷ ns) =
        let cell = cell_lines site.mode (length (n ∷ ns)) in
        let exit = exit_lines site.mode deep integers in
        good_append (map (get_line site.slots) (n ∷ ns)) (plain (op.Const nil) ∷ (cell ++ exit)) (good_gets site.slots (n ∷ ns))
        (tt, good_append cell exit (good_cells site.mode (length (n ∷ ns))) (good_exit site.mode))

-- ---- expressions

module _ (most : ℕ) (w : Site) where
  abbrev v : ℕ
  v = length w.bound

  mutual
    pub good_lines : (e : Expression) (position : Position) (deep : ℕ) (integers : List (ℕ × Kind)) → AreIntegerPlaces integers deep → deep + nodes_at v e position ≤ most → AreGoodLabels most (lines_at w deep integers e position)
    good_lines (bound n) position deep integers ints room = (tt, tt)
    good_lines object position deep integers ints room = (tt, tt)
    good_lines bindings position deep integers ints room =
        let inner = parts_room most v deep v position bindings refl refl room in
        good_bindings most deep integers ints (omega (arith, inner)) w w.bound
    good_lines (constant d) position deep integers ints room = (tt, tt)
    good_lines (quoted d) position deep integers ints room = (tt, tt)
    good_lines (call (prim.Function f) es) position deep integers ints room =
        let inner = parts_room most v deep (expressions_nodes v es) position (call (prim.Function f) es) refl refl room in
        let exit = exit_lines w.mode deep integers in
        good_append most (argument_lines w deep integers es) (plain (op.Call f (expression_count es) (failure w.mode 1)) ∷ exit)
        (good_arguments es deep integers ints (omega (arith, inner)))
        (tt, good_exit most deep integers ints (omega (arith, inner)) w.mode)
    good_lines (call (prim.Arithmetic f) no_expressions) position deep integers ints room = tt
    good_lines (call (prim.Arithmetic f) (expression e no_expressions)) position deep integers ints room = tt
    good_lines (call (prim.Arithmetic f) (expression e (expression e' no_expressions))) position deep integers ints room =
        let inner = parts_room most v deep (expressions_nodes v (expression e (expression e' no_expressions))) position (call (prim.Arithmetic f) (expression e (expression e' no_expressions))) refl refl room in
        let integers2 = integers ++ (deep, kind.Int) ∷ [] in
        let first = lines_at w deep integers e by_itself in
        let second = lines_at w (suc deep) integers2 e' by_itself in
        let last = plain (op.Int (failure w.mode 2)) ∷ plain (op.Arith f (failure w.mode 1)) ∷ [] in
        let middle = plain (op.Int (failure w.mode (length second + 3))) ∷ (second ++ last) in
        let exit = exit_lines w.mode deep integers in
        good_append most (first ++ middle) exit
        (good_append most first middle
        (good_lines e by_itself deep integers ints (omega (arith, inner))) (
          tt,
          good_append most second last
              (good_lines e' by_itself (suc deep) integers2 (places_more integers deep ints) (omega (arith, inner, some_nodes v e)))
              (tt, (tt, tt)),
        ))
        (good_exit most deep integers ints (omega (arith, inner)) w.mode)
    good_lines (call (prim.Arithmetic f) (expression e (expression e' (expression e'' es)))) position deep integers ints room = tt
    good_lines (and_also es) position deep integers ints room =
        let inner = parts_room most v deep (expressions_nodes v es) position (and_also es) refl refl room in
        good_append most (test_lines w deep integers es) (all_true_lines w.mode deep integers)
        (good_tests es deep integers ints (omega (arith, inner)))
        (good_all_true most deep integers ints (omega (arith, inner)) w.mode)
    good_lines (or_else es) position deep integers ints room =
        good_choices es deep integers ints (parts_room most v deep (expressions_nodes v es) position (or_else es) refl refl room)
    good_lines (new_tuple es) position deep integers ints room =
        let inner = parts_room most v deep (expressions_nodes v es) position (new_tuple es) refl refl room in
        good_append most (argument_lines w deep integers es) (plain (op.MakeTuple (expression_count es) (failure w.mode 1)) ∷ exit_lines w.mode deep integers)
        (good_arguments es deep integers ints (omega (arith, inner)))
        (tt, good_exit most deep integers ints (omega (arith, inner)) w.mode)
    good_lines (new_cell e f) by_itself deep integers ints room =
        let head = lines_at w deep integers e by_itself in
        let tail = lines_at w (suc deep) integers f as_tail in
        let cell = cell_lines w.mode (suc (cell_count f)) in
        let exit = exit_lines w.mode deep integers in
        let some = some_nodes v e in
        good_append most (head ++ tail) (cell ++ exit)
        (good_append most head tail
        (good_lines e by_itself deep integers ints (omega (arith, room)))
        (good_lines f as_tail (suc deep) integers (places_higher integers deep ints) (omega (arith, room, some))))
        (good_append most cell exit (good_cells most w.mode (suc (cell_count f)))
        (good_exit most deep integers ints (omega (arith, room, some)) w.mode))
    good_lines (new_cell e f) as_tail deep integers ints room =
        let head = lines_at w deep integers e by_itself in
        let tail = lines_at w (suc deep) integers f as_tail in
        let some = some_nodes v e in
        good_append most head tail
        (good_lines e by_itself deep integers ints (omega (arith, room)))
        (good_lines f as_tail (suc deep) integers (places_higher integers deep ints) (omega (arith, room, some)))
    good_lines (new_map ms) position deep integers ints room =
        let inner = parts_room most v deep (assignments_nodes v ms) position (new_map ms) refl refl room in
        good_append most (value_lines w deep integers ms) (plain (op.MakeMap (cells (assignment_keys ms) nil) (failure w.mode 1)) ∷ exit_lines w.mode deep integers)
        (good_values ms deep integers ints (omega (arith, inner)))
        (tt, good_exit most deep integers ints (omega (arith, inner)) w.mode)

    good_arguments : (es : Expressions) (deep : ℕ) (integers : List (ℕ × Kind)) → AreIntegerPlaces integers deep → deep + expressions_nodes v es ≤ most → AreGoodLabels most (argument_lines w deep integers es)
    good_arguments no_expressions deep integers ints room = tt
    good_arguments (expression e es) deep integers ints room =
        good_append most (lines_at w deep integers e by_itself) (argument_lines w (suc deep) integers es)
        (good_lines e by_itself deep integers ints (omega (arith, room)))
        (good_arguments es (suc deep) integers (places_higher integers deep ints) (omega (arith, room, some_nodes v e)))

    good_values : (ms : Assignments) (deep : ℕ) (integers : List (ℕ × Kind)) → AreIntegerPlaces integers deep → deep + assignments_nodes v ms ≤ most → AreGoodLabels most (value_lines w deep integers ms)
    good_values no_assignments deep integers ints room = tt
    good_values (assignment k e ms) deep integers ints room =
        good_append most (lines_at w deep integers e by_itself) (value_lines w (suc deep) integers ms)
        (good_lines e by_itself deep integers ints (omega (arith, room)))
        (good_values ms (suc deep) integers (places_higher integers deep ints) (omega (arith, room)))

    good_tests : (es : Expressions) (deep : ℕ) (integers : List (ℕ × Kind)) → AreIntegerPlaces integers deep → deep + expressions_nodes v es ≤ most → AreGoodLabels most (test_lines w deep integers es)
    good_tests no_expressions deep integers ints room = tt
    good_tests (expression e es) deep integers ints room =
        let rest = test_lines w deep integers es in
        good_append most (lines_at w deep integers e by_itself) (plain (op.Bool (failure w.mode (length rest + 5))) ∷ plain (op.Branch (Ahead (length rest + 2))) ∷ rest)
        (good_lines e by_itself deep integers ints (omega (arith, room)))
        (tt, (tt, good_tests es deep integers ints (omega (arith, room))))

    good_choices : (es : Expressions) (deep : ℕ) (integers : List (ℕ × Kind)) → AreIntegerPlaces integers deep → deep + expressions_nodes v es < most → AreGoodLabels most (choice_lines w deep integers es)
    good_choices no_expressions deep integers ints room = good_none_true most deep integers ints (omega (arith, room)) w.mode
    good_choices (expression e es) deep integers ints room =
        let rest = choice_lines w deep integers es in
        good_append most (lines_at w deep integers e by_itself) (plain (op.Bool (failure w.mode (length rest + 2))) ∷ plain (op.Branch (Ahead 2)) ∷ plain (op.Const (boolean true)) ∷ before_label (op.Jump (Ahead (length rest))) deep integers ∷ rest)
        (good_lines e by_itself deep integers ints (omega (arith, room)))
        (tt, (tt, (tt, (good_here most deep integers ints (omega (arith, room)), good_choices es deep integers ints (omega (arith, room))))))

  -- ---- conditions and bodies

  abbrev nodes : Expression → ℕ
  nodes e = expression_nodes v e

  good_conditions : (es : List Expression) → sum_by nodes es ≤ most → AreGoodLabels most (condition_lines w es)
  good_conditions [] room = tt
  good_conditions (e ∷ es) room =
      good_append most (lines_at w 0 [] e by_itself) (plain (op.Bool Failing) ∷ plain (op.Branch Failing) ∷ condition_lines w es)
      (good_lines e by_itself 0 [] (no_places 0) (omega (arith, room, sum_by-cons nodes e es)))
      (tt, (tt, good_conditions es (omega (arith, room, sum_by-cons nodes e es))))

  good_body : (es : List Expression) → sum_by nodes es ≤ most → AreGoodLabels most (body_lines w es)
  good_body [] room = tt
  good_body (e ∷ []) room =
      good_append most (lines_at w 0 [] e by_itself) (record { op = op.Answer; label = Some Clean } ∷ [])
      (good_lines e by_itself 0 [] (no_places 0) (omega (arith, room, sum_by-cons nodes e [])))
      (tt, tt)
  good_body (e ∷ f ∷ es) room = good_body (f ∷ es) (omega (arith, room, sum_by-cons nodes e (f ∷ es)))

-- ---- patterns, which have no labels

module _ (most : ℕ) where
  good_same : (o : Option Datum) (ls : List SourceLine) → AreGoodLabels most ls → AreGoodLabels most (same_or o ls)
  good_same None ls good = good
  good_same (Some d) ls good = (tt, (tt, tt))

  good_variable : (vs known : List ℕ) (n : ℕ) → AreGoodLabels most (variable_lines vs known n)
  good_variable vs known n = by (is_among known n)
    where
      by : (b : Bool) → AreGoodLabels most (cond b (plain (op.Get (rank_of vs n)) ∷ plain (op.Equal Failing) ∷ []) (plain (op.Bind (rank_of vs n)) ∷ []))
      by true = (tt, (tt, tt))
      by false = (tt, tt)

  good_element : (p : Pattern) (ls : List SourceLine) → AreGoodLabels most ls → AreGoodLabels most (unless_anything p ls)
  good_element (variable n) ls good = good
  good_element anything ls good = tt
  good_element (literal d) ls good = good
  good_element (tuple_of ps) ls good = good
  good_element (cell_of p q) ls good = good
  good_element (map_of fs) ls good = good

  mutual
    good_pattern : (p : Pattern) (vs known : List ℕ) → AreGoodLabels most (pattern_lines vs known p)
    good_pattern (variable n) vs known = good_variable vs known n
    good_pattern anything vs known = (tt, tt)
    good_pattern (literal d) vs known = (tt, (tt, tt))
    good_pattern (tuple_of ps) vs known =
        let elements = element_lines vs known 1 ps in
        good_same (option_map tuple (own_terms ps)) (plain (op.Tuple (pattern_count ps) Failing) ∷ (elements ++ plain op.Drop ∷ []))
        (tt, good_append most elements (plain op.Drop ∷ []) (good_elements ps vs known 1) (tt, tt))
    good_pattern (cell_of p q) vs known =
        let head = pattern_lines vs known p in
        let tail = pattern_lines vs (known ++ pattern_variables p) q in
        good_same (own_term (cell_of p q)) (plain (op.Cons Failing) ∷ plain op.Dup ∷ plain op.Head ∷ (head ++ plain op.Tail ∷ tail))
        (tt, (tt, (tt, good_append most head (plain op.Tail ∷ tail) (good_pattern p vs known) (tt, good_pattern q vs (known ++ pattern_variables p)))))
    good_pattern (map_of fs) vs known =
        (tt, good_append most (field_lines vs known fs) (plain op.Drop ∷ []) (good_fields fs vs known) (tt, tt))

    good_elements : (ps : Patterns) (vs known : List ℕ) (i : ℕ) → AreGoodLabels most (element_lines vs known i ps)
    good_elements no_patterns vs known i = tt
    good_elements (pattern p ps) vs known i =
        let own = plain op.Dup ∷ plain (op.Field i) ∷ pattern_lines vs known p in
        good_append most (unless_anything p own) (element_lines vs (known ++ pattern_variables p) (suc i) ps)
        (good_element p own (tt, (tt, good_pattern p vs known)))
        (good_elements ps vs (known ++ pattern_variables p) (suc i))

    good_fields : (fs : Fields) (vs known : List ℕ) → AreGoodLabels most (field_lines vs known fs)
    good_fields no_fields vs known = tt
    good_fields (field k p fs) vs known =
        (tt, (tt, good_append most (pattern_lines vs known p) (field_lines vs (known ++ pattern_variables p) fs) (good_pattern p vs known) (good_fields fs vs (known ++ pattern_variables p))))

  good_head : (p : Pattern) (vs : List ℕ) → AreGoodLabels most (head_lines vs p)
  good_head (variable n) vs = (tt, good_pattern (variable n) vs [])
  good_head anything vs = tt
  good_head (literal d) vs = (tt, good_pattern (literal d) vs [])
  good_head (tuple_of ps) vs = (tt, good_pattern (tuple_of ps) vs [])
  good_head (cell_of p q) vs = (tt, good_pattern (cell_of p q) vs [])
  good_head (map_of fs) vs = (tt, good_pattern (map_of fs) vs [])

  -- ---- clauses

  good_clause : (vs : List ℕ) (c : Clause) → clause_nodes c ≤ most → AreGoodLabels most (clause_block vs c).lines
  good_clause vs c room =
      let head = head_lines vs c.head in
      let conditions = condition_lines (site_of vs c Condition) c.conditions in
      let body = body_lines (site_of vs c Body) c.body in
      good_append most head (conditions ++ body) (good_head c.head vs)
      (good_append most conditions body
      (good_conditions most (site_of vs c Condition) c.conditions (omega (arith, room)))
      (good_body most (site_of vs c Body) c.body (omega (arith, room))))

-- what follows from a good label after each line holds of all labels
all_labels : (P : List ℕ → ℕ → SourceLabel → Type 0) (most : ℕ) (slots : List ℕ) (ls : List SourceLine) (pc : ℕ) → AreGoodLabels most ls → ((n : ℕ) (l : SourceLabel) → pc < n → n ≤ pc + length ls → IsGoodLabel most l → P slots n l) → AllLabels P slots pc ls
all_labels P most slots [] pc good says = tt
all_labels P most slots (l ∷ ls) pc good says =
    (here l.label good.0, all_labels P most slots ls (suc pc) good.1 (λ n m above within. says n m (omega (arith, above)) (omega (arith, within))))
  where
    here : (o : Option SourceLabel) → IfSome o (IsGoodLabel most) → IfSome o (P slots (suc pc))
    here None h = tt
    here (Some m) h = says (suc pc) m (omega arith) (omega arith) h

some_lines : (vs : List ℕ) (cs : Specification) → 0 < line_total (blocks_of vs cs)
some_lines vs [] = omega arith
some_lines vs (c ∷ cs) = omega (arith, some_lines vs cs)

-- what follows from each good label in a clause holds at the labels of each clause
each_label : (P : List ℕ → ℕ → SourceLabel → Type 0) (most : ℕ) (vs : List ℕ) (cs : Specification) (pc : ℕ) → specification_nodes cs ≤ most → All (λ c. AreAmong (clause_variables c) vs) cs → ((c : Clause) (n : ℕ) (l : SourceLabel) → AreAmong (clause_variables c) vs → 0 < n → n < pc + line_total (blocks_of vs cs) → IsGoodLabel most l → P (map (rank_of vs) (clause_variables c)) n l) → AllBlockLabels P pc (blocks_of vs cs)
each_label P most vs [] pc room inside says = ((tt, tt), tt)
each_label P most vs (c ∷ cs) pc room inside says =
    let block = clause_block vs c in
    let total : specification_nodes (c ∷ cs) ≡ clause_nodes c + specification_nodes cs = sum_by-cons clause_nodes c cs in
    let some = some_lines vs cs in
    let own = All-head (λ d. AreAmong (clause_variables d) vs) c cs inside in (
      all_labels P most block.slots block.lines pc (good_clause most vs c (omega (arith, room, total)))
          (λ n l above within good. says c n l own (omega (arith, above)) (omega (arith, within, some)) good),
      each_label P most vs cs (pc + length block.lines) (omega (arith, room, total))
          (All-tail (λ d. AreAmong (clause_variables d) vs) c cs inside)
          (λ d n l among above within good. says d n l among above (omega (arith, within)) good),
    )

-- what follows from each good label holds at each label of the code
at_labels : (P : List ℕ → ℕ → SourceLabel → Type 0) (most : ℕ) (spec : Specification) → specification_nodes spec ≤ most → ((c : Clause) (n : ℕ) (l : SourceLabel) → AreAmong (clause_variables c) (specification_variables spec) → 0 < n → n < line_total (blocks_of (specification_variables spec) spec) → IsGoodLabel most l → P (map (rank_of (specification_variables spec)) (clause_variables c)) n l) → AllBlockLabels P 0 (blocks_of (specification_variables spec) spec)
at_labels P most spec room says =
    each_label P most (specification_variables spec) spec 0 room (variables_inside spec)
    (λ c n l among above within good. says c n l among above (omega (arith, within)) good)

-- ---- slots

-- a number after the first of an ascending list is above it
above_first : (v n : ℕ) (vs : List ℕ) → Rises (v ∷ vs) → is_among vs n ≡ true → v < n
above_first v n [] h among = absurd (cc)
above_first v n (y ∷ ys) h among =
    elim (cases_eq y n) [
      | inl e ↦ omega (arith, h.0, e)
      | inr differ ↦
          let rest : is_among ys n ≡ true = sym (ap (λ b. b || is_among ys n) (ne_eqb y n differ)) ∙ among in
          omega (arith, h.0, above_first y n ys h.1 rest)
    ]

rank_here : (v n : ℕ) (vs : List ℕ) → v ≡ n → rank_of (v ∷ vs) n ≡ 0
rank_here v n vs e = rw (eq-eqb v n e) refl

rank_later : (v n : ℕ) (vs : List ℕ) → (v ≡ n → ⊥) → rank_of (v ∷ vs) n ≡ suc (rank_of vs n)
rank_later v n vs differ = rw (ne_eqb v n differ) refl

-- of two numbers in an ascending list the lower has the lower rank
rank_rises : (vs : List ℕ) (n m : ℕ) → Rises vs → is_among vs n ≡ true → is_among vs m ≡ true → n < m → rank_of vs n < rank_of vs m
rank_rises [] n m h first second below = absurd (cc)
rank_rises (v ∷ vs) n m h first second below =
    elim (cases_eq v n) [
      | inl e ↦ omega (arith, rank_here v n vs e, rank_later v m vs (λ z. absurd (omega (arith, z, e, below))))
      | inr differ ↦
          let first' = among_later v n vs differ first in
          let above = above_first v n vs h first' in
          let differ' : v ≡ m → ⊥ = λ z. absurd (omega (arith, z, above, below)) in
          omega (
            arith,
            rank_later v n vs differ,
            rank_later v m vs differ',
            rank_rises vs n m (Rises-tail v vs h) first' (among_later v m vs differ' second) below,
          )
    ]

ranks_rise : (vs ns : List ℕ) → Rises vs → Rises ns → AreAmong ns vs → Rises (map (rank_of vs) ns)
ranks_rise vs [] all own inside = tt
ranks_rise vs (n ∷ []) all own inside = tt
ranks_rise vs (n ∷ m ∷ ns) all own inside =
    let first = inside n (among-first n (m ∷ ns)) in
    let rest : AreAmong (m ∷ ns) vs = λ k h. inside k (among-rest n (m ∷ ns) k h) in
    (rank_rises vs n m all first (rest m (among-first m ns)) own.0, ranks_rise vs (m ∷ ns) all own.1 rest)

ranks_within : (vs ns : List ℕ) → AreAmong ns vs → All (λ slot. slot < length vs) (map (rank_of vs) ns)
ranks_within vs [] inside = All-nil (λ slot. slot < length vs)
ranks_within vs (n ∷ ns) inside =
    All-cons (λ slot. slot < length vs) (rank_of vs n) (map (rank_of vs) ns) (rank-below vs n (inside n (among-first n ns)))
    (ranks_within vs ns (λ k h. inside k (among-rest n ns k h)))

rise_by_place : (xs : List ℕ) → Rises xs → Rise (λ slot. slot) xs
rise_by_place [] h j d within = absurd (omega (arith, within))
rise_by_place (x ∷ []) h j d within = absurd (omega (arith, within))
rise_by_place (x ∷ y ∷ ys) h zero d within = h.0
rise_by_place (x ∷ y ∷ ys) h (suc j) d within =
    let later = rise_by_place (y ∷ ys) h.1 j d (omega (arith, within)) in
    simp unary_clauses (simp unary_clauses at later)

no_rise : {X : Type 0} (number : X → ℕ) → Rise number []
no_rise number j d within = absurd (omega (arith, within))

-- ---- frames

good_frame : (most : ℕ) (slots : List ℕ) (n : ℕ) (l : SourceLabel) → most ≤ most_parts → Rise (λ slot. slot) slots → IsGoodLabel most l → IsFrame (frame_of slots n l)
good_frame most slots n (Inside depth integers) few rise good =
    let count = good.1.count in
    record {
      count = omega (arith, few, good.0, count);
      ordered = record {
        places = good.1.rise;
        telling = All-weaker (λ place. (place_number place < depth) × (place.1 ≡ kind.Int)) IsTelling (λ place is any. absurd (let no = sym is.1 ∙ any in cc)) integers good.1.each;
        slots = rise;
      };
    }
good_frame most slots n Clean few rise good =
    record {
      count = omega arith;
      ordered = record { places = no_rise place_number; telling = All-nil IsTelling; slots = no_rise (λ slot. slot) };
    }

-- how a frame fits within given numbers of places and slots
abbrev Fits : ℕ → ℕ → List ℕ → ℕ → SourceLabel → Type 0
Fits most slot_count s n l =
    (0 < n) × ((frame_of s n l).depth ≤ most) × All (λ place. place_number place < (frame_of s n l).depth) (frame_of s n l).places × All (λ slot. slot < slot_count) (frame_of s n l).slots

good_fits : (most slot_count : ℕ) (slots : List ℕ) (n : ℕ) (l : SourceLabel) → 0 < n → All (λ slot. slot < slot_count) slots → IsGoodLabel most l → Fits most slot_count slots n l
good_fits most slot_count slots n (Inside depth integers) above within good =
    (above, good.0, All-weaker (λ place. (place_number place < depth) × (place.1 ≡ kind.Int)) (λ place. place_number place < depth) (λ place is. is.0) integers good.1.each, within)
good_fits most slot_count slots n Clean above within good =
    (above, omega arith, All-nil (λ place. place_number place < 0), All-nil (λ slot. slot < slot_count))

-- ---- the labels of the code

-- each label makes a frame
pub labels_are_frames : (most : ℕ) (spec : Specification) → most ≤ most_parts → specification_nodes spec ≤ most → AllBlockLabels (λ s n l. IsFrame (frame_of s n l)) 0 (blocks_of (specification_variables spec) spec)
labels_are_frames most spec few room =
    let vs = specification_variables spec in
    at_labels (λ s n l. IsFrame (frame_of s n l)) most spec room
    (λ c n l among above within good.
    good_frame most (map (rank_of vs) (clause_variables c)) n l few
    (rise_by_place (map (rank_of vs) (clause_variables c)) (ranks_rise vs (clause_variables c) (Rises-rising (heads_variables spec)) (Rises-rising (pattern_variables c.head)) among))
    good)

-- each label is after an instruction, has no more places than there are nodes, and names places and slots that exist
pub labels_fit : (most : ℕ) (spec : Specification) → specification_nodes spec ≤ most → AllBlockLabels (λ s n l. (0 < n) × ((frame_of s n l).depth ≤ most) × All (λ place. place_number place < (frame_of s n l).depth) (frame_of s n l).places × All (λ slot. slot < length (specification_variables spec)) (frame_of s n l).slots) 0 (blocks_of (specification_variables spec) spec)
labels_fit most spec room =
    let vs = specification_variables spec in
    at_labels (Fits most (length vs)) most spec room
    (λ c n l among above within good. good_fits most (length vs) (map (rank_of vs) (clause_variables c)) n l above (ranks_within vs (clause_variables c) among) good)

-- each label is before an instruction
pub labels_inside : (spec : Specification) → AllBlockLabels (λ s n l. n < line_total (blocks_of (specification_variables spec) spec)) 0 (blocks_of (specification_variables spec) spec)
labels_inside spec =
    at_labels (λ s n l. n < line_total (blocks_of (specification_variables spec) spec)) (specification_nodes spec) spec (omega arith)
    (λ c n l among above within good. within)
