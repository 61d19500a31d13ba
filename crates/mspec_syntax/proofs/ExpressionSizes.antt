-- The number of an expression's arguments, and their sizes.
use Rattle.std.proofs.Common.{◌≡◌, ℕ, zero, suc, ◌+◌, ◌<◌, ◌≤◌, List, [], ◌∷◌, length, get_or, refl, ap, arith}
use Rattle.term_core.specs.Datum.{Datum}
use Rattle.mspec_syntax.specs.Expression.{Expression, expressions_of, assignments_of, new_cells, expression_count, expression_size, expressions_size, assignments_size}
use Rattle.mspec_syntax.specs.Expression.Expression.{bound, object, bindings, constant, quoted, call, and_also, or_else, new_tuple, new_cell, new_map}

size-get : (es : List Expression) (i : ℕ) (e : Expression) → i < length es → i + expression_size (get_or es i e) < expressions_size (expressions_of es)
size-get [] i e h = absurd (omega arith)
size-get (x ∷ es) zero e h = omega arith
size-get (x ∷ es) (suc i) e h = omega (arith, size-get es i e (omega arith))

-- an argument is smaller than all arguments, by at least the number of those before it
pub size-at : (es : List Expression) (i : ℕ) (e : Expression) → i < length es → e ≡ get_or es i e → i + expression_size e < expressions_size (expressions_of es)
size-at es i e h is = omega (arith, size-get es i e h, ap expression_size is)

assignments-get : (ms : List (Datum × Expression)) (i : ℕ) (m : Datum × Expression) → i < length ms → i + expression_size (get_or ms i m).1 < assignments_size (assignments_of ms)
assignments-get [] i m h = absurd (omega arith)
assignments-get (x ∷ ms) zero m h = omega arith
assignments-get (x ∷ ms) (suc i) m h = omega (arith, assignments-get ms i m (omega arith))

pub assignments-at : (ms : List (Datum × Expression)) (i : ℕ) (m : Datum × Expression) → i < length ms → m ≡ get_or ms i m → i + expression_size m.1 < assignments_size (assignments_of ms)
assignments-at ms i m h is = omega (arith, assignments-get ms i m h, ap (λ x. expression_size x.1) is)

pub count-length : (es : List Expression) → expression_count (expressions_of es) ≡ length es
count-length [] = refl
count-length (e ∷ es) = ap suc (count-length es)

pub length-size : (es : List Expression) → length es ≤ expressions_size (expressions_of es)
length-size [] = omega arith
length-size (e ∷ es) = omega (arith, length-size es)

pub length-assignments : (ms : List (Datum × Expression)) → length ms ≤ assignments_size (assignments_of ms)
length-assignments [] = omega arith
length-assignments (m ∷ ms) = omega (arith, length-assignments ms)

-- the size of a list is that of its elements and its tail
pub new_cells-size : (es : List Expression) (t : Expression) → expression_size (new_cells es t) ≡ expressions_size (expressions_of es) + expression_size t
new_cells-size [] t = omega arith
new_cells-size (e ∷ es) t = omega (arith, new_cells-size es t)

pub size-some : (e : Expression) → 0 < expression_size e
size-some (bound n) = omega arith
size-some object = omega arith
size-some bindings = omega arith
size-some (constant d) = omega arith
size-some (quoted d) = omega arith
size-some (call f es) = omega arith
size-some (and_also es) = omega arith
size-some (or_else es) = omega arith
size-some (new_tuple es) = omega arith
size-some (new_cell e f) = omega arith
size-some (new_map ms) = omega arith

pub some-size : (es : List Expression) → 0 < length es → 0 < expressions_size (expressions_of es)
some-size [] h = absurd (omega arith)
some-size (e ∷ es) h = omega arith
