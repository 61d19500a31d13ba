-- How many nodes count for an expression at its position.
use Rattle.std.proofs.Common.{◌≡◌, ℕ, suc, ◌+◌, ◌<◌, ◌≤◌, arith}
use Rattle.mspec_syntax.specs.Expression.{Expression, expression_nodes, rest_nodes}
use Rattle.mspec_syntax.specs.Expression.Expression.{bound, object, bindings, constant, quoted, call, and_also, or_else, new_tuple, new_cell, new_map}
use Rattle.mspec_syntax.specs.Mode.{Position}
use Rattle.mspec_syntax.specs.Mode.Position.{by_itself, as_tail}

-- how many nodes count for an expression at this position, with one for a tail, which isn't counted itself
abbrev pub nodes_at : ℕ → Expression → Position → ℕ
nodes_at v e by_itself = expression_nodes v e
nodes_at v e as_tail = suc (rest_nodes v e)

pub some_nodes : (v : ℕ) (e : Expression) → 0 < expression_nodes v e
some_nodes v (bound n) = omega arith
some_nodes v object = omega arith
some_nodes v bindings = omega arith
some_nodes v (constant d) = omega arith
some_nodes v (quoted d) = omega arith
some_nodes v (call f es) = omega arith
some_nodes v (and_also es) = omega arith
some_nodes v (or_else es) = omega arith
some_nodes v (new_tuple es) = omega arith
some_nodes v (new_cell e f) = omega arith
some_nodes v (new_map ms) = omega arith

-- the parts of an expression that counts the same at both positions leave room for one more
pub parts_room : (most v deep n : ℕ) (position : Position) (e : Expression) → expression_nodes v e ≡ suc n → rest_nodes v e ≡ suc n → deep + nodes_at v e position ≤ most → deep + n < most
parts_room most v deep n by_itself e same last room = omega (arith, same, room)
parts_room most v deep n as_tail e same last room = omega (arith, last, room)
