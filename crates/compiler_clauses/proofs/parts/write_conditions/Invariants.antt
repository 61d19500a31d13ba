-- what was put are the lines of the conditions from this position on
use Rattle.std.proofs.Common.{◌≡◌, ◌++◌, drop}
use Rattle.compiler_clauses.specs.Clauses.{condition_lines}
use Rattle.compiler_clauses.proofs.parts.write_conditions.Given as goal

abbrev pub invariant-loop-place : goal.invariant-loop-place
invariant-loop-place g l = l.lines ≡ condition_lines l.site (drop l.place l.conditions) ++ l.initial.lines
