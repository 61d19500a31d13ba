-- The expression that a kind of the program represents.
use Rattle.std.specs.Prelude.{◌<◌, length, Option, Some, None, Box}
use Rattle.term_core.specs.Datum.Datum.{nil}
use Rattle.mspec_syntax.specs.Expression.{Expression, expressions_of, assignments_of, assignment_keys, new_cells, IsNoListExpression}
use Rattle.mspec_syntax.specs.Keys.{AreKeysRising}
use Rattle.mspec_syntax.specs.Expression.Expression.{bound, object, bindings, constant, quoted, call, and_also, or_else, new_tuple, new_map}
use Rattle.mspec_syntax.specs.declared.expression.ExpressionKind.{ExpressionKind}
use Rattle.mspec_syntax.specs.declared.expression.ExpressionKind.TheVariants as kind

-- the tail as an expression, [] where there is none
abbrev pub tail_expression : {A : Type 0} → Option (Box Expression A) → Expression
tail_expression None = constant nil
tail_expression (Some b) = b.value

abbrev pub expression_of : {A : Type 0} → ExpressionKind A → Expression
expression_of (kind.Variable n) = bound n
expression_of kind.Object = object
expression_of kind.Bindings = bindings
expression_of (kind.Constant d) = constant d
expression_of (kind.Quoted d) = quoted d
expression_of (kind.Call f es) = call f (expressions_of es.items)
expression_of (kind.AndAlso es) = and_also (expressions_of es.items)
expression_of (kind.OrElse es) = or_else (expressions_of es.items)
expression_of (kind.Tuple es) = new_tuple (expressions_of es.items)
expression_of (kind.List es tail) = new_cells es.items (tail_expression tail)
expression_of (kind.Map ms) = new_map (assignments_of ms.items)

-- a tail that is not a list, or none
abbrev pub IsTailExpression : {A : Type 0} → Option (Box Expression A) → Type 0
IsTailExpression None = Unit {0}
IsTailExpression (Some b) = IsNoListExpression b.value

-- What a kind guarantees: a list has an element and a tail that is not a list, and a map has ascending keys.
abbrev pub IsKept : {A : Type 0} → ExpressionKind A → Type 0
IsKept (kind.List es tail) = (0 < length es.items) × IsTailExpression tail
IsKept (kind.Map ms) = AreKeysRising (assignment_keys (assignments_of ms.items))
IsKept k = Unit {0}
