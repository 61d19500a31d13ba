-- Each part of an expression is smaller than the expression.
use Rattle.std.specs.Prelude.{ℕ, ◌+◌, ◌<◌, ◌≤◌, suc, max, List, [], ◌∷◌, length, Some, None}
use Rattle.std.proofs.Common.{arith}
use Rattle.std.specs.declared.alloc.Allocator as allocator
use denote.Param.Weighed.{most}
use Rattle.term_core.specs.Datum.{Datum}
use Rattle.term_core.specs.Datum.Datum.{nil}
use Rattle.mspec_syntax.specs.Expression.{Expression, expressions_of, assignments_of, new_cells, expression_size, expressions_size, assignments_size}
use Rattle.mspec_syntax.specs.Expression.Expression.{constant}
use Rattle.mspec_syntax.specs.ExpressionView.{expression_of, IsKept}
use Rattle.mspec_syntax.specs.declared.expression.ExpressionKind.{ExpressionKind}
use Rattle.mspec_syntax.specs.declared.expression.ExpressionKind.TheVariants as kind
use Rattle.mspec_syntax.specs.declared.expression.Expression.TheDeep.{deep-ExpressionKind}

expressions_fall : (es : List Expression) → most (λ e. expression_size e + 1) es ≤ suc (expressions_size (expressions_of es))
expressions_fall [] = omega arith
expressions_fall (e ∷ es) = omega (arith, expressions_fall es)

assignments_fall : (ms : List (Datum × Expression)) → most (λ a. max 0 (max (expression_size a.1 + 1) 0)) ms ≤ suc (assignments_size (assignments_of ms))
assignments_fall [] = omega arith
assignments_fall (a ∷ ms) = omega (arith, assignments_fall ms)

list_falls : (es : List Expression) (f : Expression) (weight : ℕ) → weight ≤ suc (expression_size f) → 0 < length es → max (most (λ e. expression_size e + 1) es) (max weight 0) ≤ expression_size (new_cells es f)
list_falls [] f weight h some = absurd (omega arith)
list_falls (e ∷ []) f weight h some = omega arith
list_falls (e ∷ d ∷ es) f weight h some = omega (arith, list_falls (d ∷ es) f weight h (omega arith))

-- no part of an expression is as large as the expression
pub parts_fall : {A : Type 0} (G : allocator.Ghosts A) (k : ExpressionKind A) → IsKept k → max (deep-ExpressionKind A G k) 0 ≤ expression_size (expression_of k)
parts_fall G (kind.Variable n) h = omega arith
parts_fall G kind.Object h = omega arith
parts_fall G kind.Bindings h = omega arith
parts_fall G (kind.Constant d) h = omega arith
parts_fall G (kind.Quoted d) h = omega arith
parts_fall G (kind.Call f es) h = let e = expressions_fall es.items in omega arith
parts_fall G (kind.AndAlso es) h = let e = expressions_fall es.items in omega arith
parts_fall G (kind.OrElse es) h = let e = expressions_fall es.items in omega arith
parts_fall G (kind.Tuple es) h = let e = expressions_fall es.items in omega arith
parts_fall G (kind.List es None) h = let e = list_falls es.items (constant nil) 0 (omega arith) h.0 in omega arith
parts_fall G (kind.List es (Some b)) h = let e = list_falls es.items b.value (expression_size b.value + 1) (omega arith) h.0 in omega arith
parts_fall G (kind.Map ms) h = let e = assignments_fall ms.items in omega arith
