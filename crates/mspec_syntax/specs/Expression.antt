-- The expressions of conditions and bodies. (ERTS User's Guide, "Match Specifications in Erlang", "Grammar":
-- ConditionExpression, ExprMatchVariable, TermConstruct, BoolFunction, GuardFunction.)
use Rattle.std.specs.Prelude.{ℕ, suc, ◌+◌, List, [], ◌∷◌}
use Rattle.term_core.specs.Datum.{Datum}
use Rattle.term_core.specs.Datum.Datum.{nil}
use Rattle.prims_table.specs.declared.prim.Primitive.{Primitive}
use Rattle.mspec_syntax.specs.Pattern.{literal_tail_nodes}

mutual
  -- An expression: a variable's value, the object ('$_'), the list of all variables' values ('$$'), a term that means
  -- itself, or a term quoted by const; a call of a function, of andalso or of orelse; or a tuple, a cell of a list or a
  -- map made of values.
  pub data Expression : Type 0 where
    bound : ℕ → Expression
    object : Expression
    bindings : Expression
    constant : Datum → Expression
    quoted : Datum → Expression
    call : Primitive → Expressions → Expression
    and_also : Expressions → Expression
    or_else : Expressions → Expression
    new_tuple : Expressions → Expression
    new_cell : Expression → Expression → Expression
    new_map : Assignments → Expression

  -- arguments or elements, from the left
  pub data Expressions : Type 0 where
    no_expressions : Expressions
    expression : Expression → Expressions → Expressions

  -- the keys of a map, which mean themselves, each with the expression of its value
  pub data Assignments : Type 0 where
    no_assignments : Assignments
    assignment : Datum → Expression → Assignments → Assignments

-- a list of expressions as arguments or elements
abbrev pub expressions_of : List Expression → Expressions
expressions_of [] = no_expressions
expressions_of (e ∷ es) = expression e (expressions_of es)

-- a list of keys and expressions as the assignments of a map
abbrev pub assignments_of : List (Datum × Expression) → Assignments
assignments_of [] = no_assignments
assignments_of (a ∷ ms) = assignment a.0 a.1 (assignments_of ms)

-- the list expression of these elements and this tail
abbrev pub new_cells : List Expression → Expression → Expression
new_cells [] tail = tail
new_cells (e ∷ es) tail = new_cell e (new_cells es tail)

-- the number of arguments or elements
abbrev pub expression_count : Expressions → ℕ
expression_count no_expressions = 0
expression_count (expression e es) = suc (expression_count es)

-- the keys of a map, in their order
abbrev pub assignment_keys : Assignments → List Datum
assignment_keys no_assignments = []
assignment_keys (assignment k e ms) = k ∷ assignment_keys ms

-- an expression that is neither [] nor a cell
abbrev pub IsNoListExpression : Expression → Type 0
IsNoListExpression (constant nil) = ⊥
IsNoListExpression (new_cell e f) = ⊥
IsNoListExpression e = Unit {0}

abbrev mutual
  -- The number of nodes of an expression: itself and all expressions in it. '$$' counts one, and one more for each
  -- variable of its clause's head. A tail counts unless it is [], and each key of a map counts one.
  pub expression_nodes : ℕ → Expression → ℕ
  expression_nodes variables (bound n) = 1
  expression_nodes variables object = 1
  expression_nodes variables bindings = suc variables
  expression_nodes variables (constant d) = 1
  expression_nodes variables (quoted d) = 1
  expression_nodes variables (call f es) = suc (expressions_nodes variables es)
  expression_nodes variables (and_also es) = suc (expressions_nodes variables es)
  expression_nodes variables (or_else es) = suc (expressions_nodes variables es)
  expression_nodes variables (new_tuple es) = suc (expressions_nodes variables es)
  expression_nodes variables (new_cell e f) =
      suc (expression_nodes variables e + rest_nodes variables f)
  expression_nodes variables (new_map ms) = suc (assignments_nodes variables ms)

  pub expressions_nodes : ℕ → Expressions → ℕ
  expressions_nodes variables no_expressions = 0
  expressions_nodes variables (expression e es) =
      expression_nodes variables e + expressions_nodes variables es

  pub assignments_nodes : ℕ → Assignments → ℕ
  assignments_nodes variables no_assignments = 0
  assignments_nodes variables (assignment k e ms) =
      suc (expression_nodes variables e + assignments_nodes variables ms)

  -- the nodes of the remaining elements of a list and of the tail at their end
  pub rest_nodes : ℕ → Expression → ℕ
  rest_nodes variables (bound n) = 1
  rest_nodes variables object = 1
  rest_nodes variables bindings = suc variables
  rest_nodes variables (constant d) = literal_tail_nodes d
  rest_nodes variables (quoted d) = 1
  rest_nodes variables (call f es) = suc (expressions_nodes variables es)
  rest_nodes variables (and_also es) = suc (expressions_nodes variables es)
  rest_nodes variables (or_else es) = suc (expressions_nodes variables es)
  rest_nodes variables (new_tuple es) = suc (expressions_nodes variables es)
  rest_nodes variables (new_cell e f) = expression_nodes variables e + rest_nodes variables f
  rest_nodes variables (new_map ms) = suc (assignments_nodes variables ms)

abbrev mutual
  -- the size of an expression, which is less for each of its parts
  pub expression_size : Expression → ℕ
  expression_size (bound n) = 1
  expression_size object = 1
  expression_size bindings = 1
  expression_size (constant d) = 1
  expression_size (quoted d) = 1
  expression_size (call f es) = suc (expressions_size es)
  expression_size (and_also es) = suc (expressions_size es)
  expression_size (or_else es) = suc (expressions_size es)
  expression_size (new_tuple es) = suc (expressions_size es)
  expression_size (new_cell e f) = suc (expression_size e + expression_size f)
  expression_size (new_map ms) = suc (assignments_size ms)

  pub expressions_size : Expressions → ℕ
  expressions_size no_expressions = 0
  expressions_size (expression e es) = suc (expression_size e + expressions_size es)

  pub assignments_size : Assignments → ℕ
  assignments_size no_assignments = 0
  assignments_size (assignment k e ms) = suc (expression_size e + assignments_size ms)
