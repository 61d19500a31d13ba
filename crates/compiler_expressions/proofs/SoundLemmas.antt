-- The lines of sound expressions are writable.
use Rattle.std.proofs.Common.{◌≡◌, true, ℕ, zero, suc, ◌+◌, ◌*◌, ◌≤◌, List, [], ◌∷◌, ◌++◌, map, length, arith}
use Rattle.term_operand.specs.Operand.{boolean}
use Rattle.term_core.specs.Datum.{cells}
use Rattle.term_core.specs.Datum.Datum.{nil}
use Rattle.mcode.specs.Program.{most_slots}
use Rattle.mcode.specs.declared.kind.Kind.{Kind}
use Rattle.mcode.specs.declared.kind.Kind.TheVariants as kind
use Rattle.prims_table.specs.declared.prim.Primitive.TheVariants as prim
use Rattle.mspec_syntax.specs.Expression.{Expression, Expressions, Assignments, assignment_keys, expression_count, expression_nodes, expressions_nodes, assignments_nodes, rest_nodes}
use Rattle.mspec_syntax.specs.Expression.Expression.{bound, object, bindings, constant, quoted, call, and_also, or_else, new_tuple, new_cell, new_map}
use Rattle.mspec_syntax.specs.Expression.Expressions.{no_expressions, expression}
use Rattle.mspec_syntax.specs.Expression.Assignments.{no_assignments, assignment}
use Rattle.mspec_syntax.specs.Grammar.{is_among}
use Rattle.mspec_syntax.specs.Mode.Position.{by_itself, as_tail}
use Rattle.mspec_syntax.specs.Sound.{IsSoundExpression, AreSoundExpressions, AreSoundAssignments}
use Rattle.mspec_syntax.specs.declared.mode.Mode.{Mode}
use Rattle.mspec_syntax.specs.declared.mode.Mode.TheVariants.{Condition, Body}
use Rattle.compiler_assembly.specs.Line.{SourceLine, plain, before_label}
use Rattle.compiler_assembly.specs.declared.op.Op.TheVariants as op
use Rattle.compiler_assembly.specs.declared.op.Target.TheVariants.{Ahead}
use Rattle.compiler_expressions.specs.Expressions.{Site, failure, exit_lines, cell_lines, cell_count, bindings_lines, lines_at, argument_lines, value_lines, test_lines, choice_lines, all_true_lines, none_true_lines}
use Rattle.compiler_expressions.specs.Writable.{AreWritable, CanBeWritten, IsSoundSite, most_counted}
use Rattle.mspec_syntax.proofs.RankLemmas.{rank-below, among-first, among-rest}
use Rattle.compiler_expressions.proofs.LineLemmas.{near, get_line}
use Rattle.compiler_expressions.proofs.LengthLemmas.{size-nodes, count-nodes, lines-length, tests-length, choices-length}

join : (a b : List SourceLine) → AreWritable a → AreWritable b → AreWritable (a ++ b)
join [] b h k = k
join (l ∷ a) b h k = (h.0, join a b h.1 k)

exit-writable : (mode : Mode) (d : ℕ) (ints : List (ℕ × Kind)) → AreWritable (exit_lines mode d ints)
exit-writable Condition d ints = tt
exit-writable Body d ints = (omega arith, (tt, tt))

all_true-writable : (mode : Mode) (d : ℕ) (ints : List (ℕ × Kind)) → AreWritable (all_true_lines mode d ints)
all_true-writable Condition d ints = (tt, (omega arith, (tt, tt)))
all_true-writable Body d ints = (tt, (omega arith, (tt, (omega arith, (tt, tt)))))

none_true-writable : (mode : Mode) (d : ℕ) (ints : List (ℕ × Kind)) → AreWritable (none_true_lines mode d ints)
none_true-writable Condition d ints = (tt, tt)
none_true-writable Body d ints = (tt, (omega arith, (tt, tt)))

cells-writable : (mode : Mode) (n : ℕ) → n ≤ most_counted → AreWritable (cell_lines mode n)
cells-writable mode zero h = tt
cells-writable mode (suc n) h = (near mode (suc n) h, cells-writable mode n (omega arith))

gets-writable : (slots ns : List ℕ) → length slots ≤ most_slots → ((n : ℕ) → is_among ns n ≡ true → is_among slots n ≡ true) → AreWritable (map (get_line slots) ns)
gets-writable slots [] few among = tt
gets-writable slots (n ∷ ns) few among = (
  omega (arith, rank-below slots n (among n (among-first n ns))),
  gets-writable slots ns few (λ m h. among m (among-rest n ns m h)),
)

module _ (site : Site) (sound : IsSoundSite site) where
  abbrev vars : ℕ
  vars = length site.bound

  bindings-writable : (d : ℕ) (ints : List (ℕ × Kind)) (ns : List ℕ) → length ns ≤ most_counted → ((n : ℕ) → is_among ns n ≡ true → is_among site.slots n ≡ true) → AreWritable (bindings_lines site d ints ns)
  bindings-writable d ints [] few among = (tt, tt)
  bindings-writable d ints (n ∷ ns) few among =
      join (map (get_line site.slots) (n ∷ ns)) (plain (op.Const nil) ∷ (cell_lines site.mode (length (n ∷ ns)) ++ exit_lines site.mode d ints))
      (gets-writable site.slots (n ∷ ns) sound.count among)
      (tt, join (cell_lines site.mode (length (n ∷ ns))) (exit_lines site.mode d ints) (cells-writable site.mode (length (n ∷ ns)) few) (exit-writable site.mode d ints))

  mutual
    -- the lines of a sound expression are writable, by itself and as a tail
    writable : (e : Expression) (d : ℕ) (ints : List (ℕ × Kind)) → IsSoundExpression site.bound e → (8 * expression_nodes vars e ≤ most_counted → AreWritable (lines_at site d ints e by_itself)) × (8 * rest_nodes vars e ≤ most_counted → AreWritable (lines_at site d ints e as_tail))
    writable (bound n) d ints h =
        let slot = rank-below site.slots n (sound.bound n h) in
        let few = sound.count in
        ((λ room. (omega arith, tt)), (λ room. (omega arith, tt)))
    writable object d ints h = ((λ room. (tt, tt)), (λ room. (tt, tt)))
    writable bindings d ints h = (
      (λ room. bindings-writable d ints site.bound (omega (arith, room)) sound.bound),
      (λ room. bindings-writable d ints site.bound (omega (arith, room)) sound.bound),
    )
    writable (constant c) d ints h = ((λ room. (tt, tt)), (λ room. (tt, tt)))
    writable (quoted c) d ints h = ((λ room. (tt, tt)), (λ room. (tt, tt)))
    writable (call (prim.Function f) es) d ints h =
        let all : 8 * expression_nodes vars (call (prim.Function f) es) ≤ most_counted → AreWritable (lines_at site d ints (call (prim.Function f) es) by_itself) =
        λ room.
        join (argument_lines site d ints es) (plain (op.Call f (expression_count es) (failure site.mode 1)) ∷ exit_lines site.mode d ints)
        (arguments-writable es d ints h.1 (omega (arith, room)))
        ((omega (arith, room, count-nodes vars es), near site.mode 1 (omega arith)), exit-writable site.mode d ints)
        in (all, all)
    writable (call (prim.Arithmetic f) no_expressions) d ints h = ((λ room. tt), (λ room. tt))
    writable (call (prim.Arithmetic f) (expression e no_expressions)) d ints h = ((λ room. tt), (λ room. tt))
    writable (call (prim.Arithmetic f) (expression e (expression e' no_expressions))) d ints h =
        let first = lines_at site d ints e by_itself in
        let second = lines_at site (suc d) (ints ++ (d, kind.Int) ∷ []) e' by_itself in
        let end = plain (op.Int (failure site.mode 2)) ∷ plain (op.Arith f (failure site.mode 1)) ∷ [] in
        let behind = plain (op.Int (failure site.mode (length second + 3))) ∷ (second ++ end) in
        let own = (lines-length site e' (suc d) (ints ++ (d, kind.Int) ∷ []) h.1.1.0).0 in
        let all : 8 * expression_nodes vars (call (prim.Arithmetic f) (expression e (expression e' no_expressions))) ≤ most_counted → AreWritable (lines_at site d ints (call (prim.Arithmetic f) (expression e (expression e' no_expressions))) by_itself) =
        λ room.
        join (first ++ behind) (exit_lines site.mode d ints)
        (join first behind ((writable e d ints h.1.0).0 (omega (arith, room))) (
          near site.mode (length second + 3) (omega (arith, room, own)),
          join second end ((writable e' (suc d) (ints ++ (d, kind.Int) ∷ []) h.1.1.0).0 (omega (arith, room)))
              (near site.mode 2 (omega arith), (near site.mode 1 (omega arith), tt)),
        ))
        (exit-writable site.mode d ints)
        in (all, all)
    writable (call (prim.Arithmetic f) (expression e (expression e' (expression x es)))) d ints h = ((λ room. tt), (λ room. tt))
    writable (and_also es) d ints h =
        let all : 8 * expression_nodes vars (and_also es) ≤ most_counted → AreWritable (lines_at site d ints (and_also es) by_itself) =
        λ room.
        join (test_lines site d ints es) (all_true_lines site.mode d ints) (tests-writable es d ints h.1 (omega (arith, room))) (all_true-writable site.mode d ints)
        in (all, all)
    writable (or_else es) d ints h =
        let all : 8 * expression_nodes vars (or_else es) ≤ most_counted → AreWritable (lines_at site d ints (or_else es) by_itself) =
        λ room. choices-writable es d ints h.1 (omega (arith, room))
        in (all, all)
    writable (new_tuple es) d ints h =
        let all : 8 * expression_nodes vars (new_tuple es) ≤ most_counted → AreWritable (lines_at site d ints (new_tuple es) by_itself) =
        λ room.
        join (argument_lines site d ints es) (plain (op.MakeTuple (expression_count es) (failure site.mode 1)) ∷ exit_lines site.mode d ints)
        (arguments-writable es d ints h (omega (arith, room)))
        ((omega (arith, room, count-nodes vars es), near site.mode 1 (omega arith)), exit-writable site.mode d ints)
        in (all, all)
    writable (new_cell e f) d ints h =
        let own = lines_at site d ints e by_itself in
        let rest = lines_at site (suc d) ints f as_tail in
        let first = writable e d ints h.0 in
        let last = writable f (suc d) ints h.1 in
        let few = (lines-length site f (suc d) ints h.1).1 in
        let made = cell_lines site.mode (suc (cell_count f)) in (
          (λ room.
              join (own ++ rest) (made ++ exit_lines site.mode d ints)
              (join own rest (first.0 (omega (arith, room))) (last.1 (omega (arith, room))))
              (join made (exit_lines site.mode d ints) (cells-writable site.mode (suc (cell_count f)) (omega (arith, room, few))) (exit-writable site.mode d ints))),
          (λ room. join own rest (first.0 (omega (arith, room))) (last.1 (omega (arith, room)))),
        )
    writable (new_map ms) d ints h =
        let all : 8 * expression_nodes vars (new_map ms) ≤ most_counted → AreWritable (lines_at site d ints (new_map ms) by_itself) =
        λ room.
        join (value_lines site d ints ms) (plain (op.MakeMap (cells (assignment_keys ms) nil) (failure site.mode 1)) ∷ exit_lines site.mode d ints)
        (values-writable ms d ints h.1 (omega (arith, room)))
        ((h.0.listed, near site.mode 1 (omega arith)), exit-writable site.mode d ints)
        in (all, all)

    arguments-writable : (es : Expressions) (d : ℕ) (ints : List (ℕ × Kind)) → AreSoundExpressions site.bound es → 8 * expressions_nodes vars es ≤ most_counted → AreWritable (argument_lines site d ints es)
    arguments-writable no_expressions d ints h room = tt
    arguments-writable (expression e es) d ints h room =
        join (lines_at site d ints e by_itself) (argument_lines site (suc d) ints es)
        ((writable e d ints h.0).0 (omega (arith, room))) (arguments-writable es (suc d) ints h.1 (omega (arith, room)))

    values-writable : (ms : Assignments) (d : ℕ) (ints : List (ℕ × Kind)) → AreSoundAssignments site.bound ms → 8 * assignments_nodes vars ms ≤ most_counted → AreWritable (value_lines site d ints ms)
    values-writable no_assignments d ints h room = tt
    values-writable (assignment k e ms) d ints h room =
        join (lines_at site d ints e by_itself) (value_lines site (suc d) ints ms)
        ((writable e d ints h.1).0 (omega (arith, room))) (values-writable ms (suc d) ints h.2 (omega (arith, room)))

    tests-writable : (es : Expressions) (d : ℕ) (ints : List (ℕ × Kind)) → AreSoundExpressions site.bound es → 8 * expressions_nodes vars es + 8 ≤ most_counted → AreWritable (test_lines site d ints es)
    tests-writable no_expressions d ints h room = tt
    tests-writable (expression e es) d ints h room =
        let rest = test_lines site d ints es in
        let few = tests-length site es d ints h.1 in
        join (lines_at site d ints e by_itself) (plain (op.Bool (failure site.mode (length rest + 5))) ∷ plain (op.Branch (Ahead (length rest + 2))) ∷ rest)
        ((writable e d ints h.0).0 (omega (arith, room)))
        (near site.mode (length rest + 5) (omega (arith, room, few)), (omega (arith, room, few), tests-writable es d ints h.1 (omega (arith, room))))

    choices-writable : (es : Expressions) (d : ℕ) (ints : List (ℕ × Kind)) → AreSoundExpressions site.bound es → 8 * expressions_nodes vars es + 8 ≤ most_counted → AreWritable (choice_lines site d ints es)
    choices-writable no_expressions d ints h room = none_true-writable site.mode d ints
    choices-writable (expression e es) d ints h room =
        let rest = choice_lines site d ints es in
        let few = choices-length site es d ints h.1 in
        join (lines_at site d ints e by_itself) (plain (op.Bool (failure site.mode (length rest + 2))) ∷ plain (op.Branch (Ahead 2)) ∷ plain (op.Const (boolean true)) ∷ before_label (op.Jump (Ahead (length rest))) d ints ∷ rest)
        ((writable e d ints h.0).0 (omega (arith, room)))
        (near site.mode (length rest + 2) (omega (arith, room, few)), (omega arith, (tt, (omega (arith, room, few), choices-writable es d ints h.1 (omega (arith, room))))))

  -- a sound expression can be written if there is room for its nodes
  pub sound-written : (d : ℕ) (ints : List (ℕ × Kind)) (e : Expression) → IsSoundExpression site.bound e → d + 8 * expression_nodes vars e ≤ most_counted → CanBeWritten site d ints e
  sound-written d ints e h room =
      record { room = omega (arith, room, (size-nodes vars e).0); lines = (writable e d ints h).0 (omega (arith, room)) }
