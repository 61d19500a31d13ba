-- the keys so far and those that are left are all keys
use Rattle.std.proofs.Common.{◌≡◌, ◌++◌, drop}
use Rattle.mspec_syntax.specs.Expression.{assignments_of, assignment_keys}
use Rattle.compiler_expressions.proofs.put.key_list.Given as goal

abbrev pub invariant-loop-key : goal.invariant-loop-key
invariant-loop-key g l =
    l.keys.items ++ assignment_keys (assignments_of (drop l.key-index l.assignments)) ≡ assignment_keys (assignments_of l.assignments)
