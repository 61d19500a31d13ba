-- the variables from this position on
use Rattle.std.proofs.Common.{◌≡◌, ◌++◌, map, drop}
use Rattle.compiler_expressions.proofs.LineLemmas.{get_line}
use Rattle.compiler_expressions.proofs.site.Site.put_variables.Given as goal

abbrev pub invariant-loop-place : goal.invariant-loop-place
invariant-loop-place g l = l.lines ≡ map (get_line l.self.slots) (drop l.place l.numbers) ++ l.initial.lines
