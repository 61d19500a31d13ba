-- The code of expressions: the value is pushed. If there is no value, the clause fails in a condition; in a body 'EXIT'
-- is pushed instead.
use Rattle.std.specs.Prelude.{ℕ, zero, suc, ◌+◌, true, false, List, [], ◌∷◌, ◌++◌, length, map}
use Rattle.term_core.specs.Datum.{cells}
use Rattle.term_core.specs.Datum.Datum.{nil}
use Rattle.term_operand.specs.Operand.{boolean}
use Rattle.prims_table.specs.declared.prim.Primitive.TheVariants as prim
use Rattle.prims_table.specs.declared.prim.Arithmetic.{Arithmetic}
use Rattle.mcode.specs.declared.kind.Kind.{Kind}
use Rattle.mcode.specs.declared.kind.Kind.TheVariants as kind
use Rattle.mspec_syntax.specs.Expression.{Expression, Expressions, Assignments, expression_count, assignment_keys}
use Rattle.mspec_syntax.specs.Expression.Expression.{bound, object, bindings, constant, quoted, call, and_also, or_else, new_tuple, new_cell, new_map}
use Rattle.mspec_syntax.specs.Expression.Expressions.{no_expressions, expression}
use Rattle.mspec_syntax.specs.Expression.Assignments.{no_assignments, assignment}
use Rattle.mspec_syntax.specs.Mode.{exit_term, Position}
use Rattle.mspec_syntax.specs.Rising.{rank_of}
use Rattle.mspec_syntax.specs.Mode.Position.{by_itself, as_tail}
use Rattle.mspec_syntax.specs.declared.mode.Mode.{Mode}
use Rattle.mspec_syntax.specs.declared.mode.Mode.TheVariants.{Condition, Body}
use Rattle.compiler_assembly.specs.Line.{SourceLine, plain, before_label}
use Rattle.compiler_assembly.specs.declared.op.Op.TheVariants as op
use Rattle.compiler_assembly.specs.declared.op.Target.{Target}
use Rattle.compiler_assembly.specs.declared.op.Target.TheVariants.{Failing, Ahead}

-- The variables of the specification, those of the clause, and whether the expression is a condition or in a body.
pub record Site : Type 0 where
  pub slots : List ℕ
  pub bound : List ℕ
  pub mode : Mode

-- where an instruction leads that fails: in a condition to the clause's end, in a body past n lines
abbrev pub failure : Mode → ℕ → Target
failure Condition n = Failing
failure Body n = Ahead n

-- The last lines of an expression of which one may fail: in a body a jump over 'EXIT', to which the lines lead that
-- fail. There are `depth` places below its value, of which these are integers.
abbrev pub exit_lines : Mode → ℕ → List (ℕ × Kind) → List SourceLine
exit_lines Condition depth integers = []
exit_lines Body depth integers =
    before_label (op.Jump (Ahead 1)) depth integers
    ∷ before_label (op.Const exit_term) (suc depth) integers
    ∷ []

-- the lines that make n cells of n elements and a tail; in a body one that fails leads past the remaining lines and a jump
abbrev pub cell_lines : Mode → ℕ → List SourceLine
cell_lines mode zero = []
cell_lines mode (suc n) = plain (op.MakeCons (failure mode (suc n))) ∷ cell_lines mode n

-- the lines of the list of the clause's variables' values; making it may fail if it has elements
abbrev pub bindings_lines : Site → ℕ → List (ℕ × Kind) → List ℕ → List SourceLine
bindings_lines site depth integers [] = plain (op.Const nil) ∷ []
bindings_lines site depth integers (v ∷ vs) =
    map (λ n. plain (op.Get (rank_of site.slots n))) (v ∷ vs)
    ++ plain (op.Const nil)
    ∷ (cell_lines site.mode (length (v ∷ vs)) ++ exit_lines site.mode depth integers)

-- the lines of a function of two integers, made of those of both arguments; the second come after the first
abbrev pub arithmetic_lines : Mode → Arithmetic → List SourceLine → List SourceLine
    → List SourceLine
arithmetic_lines mode f first second =
    first
    ++ plain (op.Int (failure mode (length second + 3)))
    ∷ (second
    ++ plain (op.Int (failure mode 2)) ∷ plain (op.Arith f (failure mode 1)) ∷ [])

-- the number of elements before the tail of a list that is made
abbrev pub cell_count : Expression → ℕ
cell_count (new_cell e f) = suc (cell_count f)
cell_count e = 0

-- the lines of the elements and the tail of a list that is made, followed, if the list is not itself a tail, by its cells
abbrev pub list_lines : Mode → ℕ → List (ℕ × Kind) → Position → ℕ → List SourceLine
    → List SourceLine
list_lines mode depth integers as_tail count ls = ls
list_lines mode depth integers by_itself count ls =
    ls ++ (cell_lines mode count ++ exit_lines mode depth integers)

-- the last lines of andalso: true, after a jump false, and in a body after another jump 'EXIT'
abbrev pub all_true_lines : Mode → ℕ → List (ℕ × Kind) → List SourceLine
all_true_lines Condition depth integers =
    plain (op.Const (boolean true))
    ∷ before_label (op.Jump (Ahead 1)) depth integers
    ∷ before_label (op.Const (boolean false)) (suc depth) integers
    ∷ []
all_true_lines Body depth integers =
    plain (op.Const (boolean true))
    ∷ before_label (op.Jump (Ahead 3)) depth integers
    ∷ plain (op.Const (boolean false))
    ∷ before_label (op.Jump (Ahead 1)) depth integers
    ∷ before_label (op.Const exit_term) (suc depth) integers
    ∷ []

-- the lines of an argument of andalso, before those of the others: no truth value fails past all of them, and false
-- leads to false
abbrev pub and_lines : Mode → List SourceLine → List SourceLine → List SourceLine
and_lines mode ls rest =
    ls
    ++ plain (op.Bool (failure mode (length rest + 5)))
    ∷ plain (op.Branch (Ahead (length rest + 2)))
    ∷ rest

-- the last lines of orelse: false, and in a body after a jump 'EXIT'
abbrev pub none_true_lines : Mode → ℕ → List (ℕ × Kind) → List SourceLine
none_true_lines Condition depth integers =
    before_label (op.Const (boolean false)) (suc depth) integers ∷ []
none_true_lines Body depth integers =
    plain (op.Const (boolean false))
    ∷ before_label (op.Jump (Ahead 1)) depth integers
    ∷ before_label (op.Const exit_term) (suc depth) integers
    ∷ []

-- the lines of an argument of orelse, before all its other lines: if it is true, so is the whole, else the others follow
abbrev pub or_lines : Mode → ℕ → List (ℕ × Kind) → List SourceLine → List SourceLine
    → List SourceLine
or_lines mode depth integers ls rest =
    ls
    ++ plain (op.Bool (failure mode (length rest + 2)))
    ∷ plain (op.Branch (Ahead 2))
    ∷ plain (op.Const (boolean true))
    ∷ before_label (op.Jump (Ahead (length rest))) depth integers
    ∷ rest

abbrev mutual
  -- the lines of an expression at this position, with `depth` places below its value, of which these are integers
  pub lines_at : Site → ℕ → List (ℕ × Kind) → Expression → Position → List SourceLine
  lines_at site depth integers (bound n) position =
      plain (op.Get (rank_of site.slots n)) ∷ []
  lines_at site depth integers object position = plain op.Load ∷ []
  lines_at site depth integers bindings position =
      bindings_lines site depth integers site.bound
  lines_at site depth integers (constant d) position = plain (op.Const d) ∷ []
  lines_at site depth integers (quoted d) position = plain (op.Const d) ∷ []
  lines_at site depth integers (call (prim.Function f) es) position =
      argument_lines site depth integers es
      ++ plain (op.Call f (expression_count es) (failure site.mode 1))
      ∷ exit_lines site.mode depth integers
  lines_at site depth integers
      (call (prim.Arithmetic f) (expression e (expression e' no_expressions))) position =
      arithmetic_lines site.mode f (lines_at site depth integers e by_itself)
      (lines_at site (suc depth) (integers ++ (depth, kind.Int) ∷ []) e' by_itself)
      ++ exit_lines site.mode depth integers
  lines_at site depth integers (call (prim.Arithmetic f) es) position = []
  lines_at site depth integers (and_also es) position =
      test_lines site depth integers es ++ all_true_lines site.mode depth integers
  lines_at site depth integers (or_else es) position = choice_lines site depth integers es
  lines_at site depth integers (new_tuple es) position =
      argument_lines site depth integers es
      ++ plain (op.MakeTuple (expression_count es) (failure site.mode 1))
      ∷ exit_lines site.mode depth integers
  lines_at site depth integers (new_cell e f) position =
      list_lines site.mode depth integers position (suc (cell_count f))
      (lines_at site depth integers e by_itself
      ++ lines_at site (suc depth) integers f as_tail)
  lines_at site depth integers (new_map ms) position =
      value_lines site depth integers ms
      ++ plain (op.MakeMap (cells (assignment_keys ms) nil) (failure site.mode 1))
      ∷ exit_lines site.mode depth integers

  -- arguments or elements, each above the one before
  pub argument_lines : Site → ℕ → List (ℕ × Kind) → Expressions → List SourceLine
  argument_lines site depth integers no_expressions = []
  argument_lines site depth integers (expression e es) =
      lines_at site depth integers e by_itself
      ++ argument_lines site (suc depth) integers es

  -- the values of a map's keys, each above the one before
  pub value_lines : Site → ℕ → List (ℕ × Kind) → Assignments → List SourceLine
  value_lines site depth integers no_assignments = []
  value_lines site depth integers (assignment k e ms) =
      lines_at site depth integers e by_itself
      ++ value_lines site (suc depth) integers ms

  -- the arguments of andalso
  pub test_lines : Site → ℕ → List (ℕ × Kind) → Expressions → List SourceLine
  test_lines site depth integers no_expressions = []
  test_lines site depth integers (expression e es) =
      and_lines site.mode (lines_at site depth integers e by_itself)
      (test_lines site depth integers es)

  -- the arguments of orelse and its last lines
  pub choice_lines : Site → ℕ → List (ℕ × Kind) → Expressions → List SourceLine
  choice_lines site depth integers no_expressions =
      none_true_lines site.mode depth integers
  choice_lines site depth integers (expression e es) =
      or_lines site.mode depth integers (lines_at site depth integers e by_itself)
      (choice_lines site depth integers es)
