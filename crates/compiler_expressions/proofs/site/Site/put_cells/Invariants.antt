-- the cells that were put
use Rattle.std.proofs.Common.{◌≡◌, ◌++◌}
use Rattle.compiler_expressions.specs.Expressions.{cell_lines}
use Rattle.compiler_expressions.proofs.site.Site.put_cells.Given as goal

abbrev pub invariant-loop-behind : goal.invariant-loop-behind
invariant-loop-behind g l = l.lines ≡ cell_lines l.self.mode l.behind ++ l.initial.lines
