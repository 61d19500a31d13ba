use Rattle.std.proofs.Common.{◌≡◌, length}
use Rattle.tool_script.specs.Line.{has_dot}
use Rattle.tool_script.proofs.line.has_dot.Given as goal

abbrev pub invariant-loop-first : goal.invariant-loop-first
invariant-loop-first l = has_dot l.within l.rest ≡ has_dot l.fn.within l.line

abbrev pub decreases-loop-first : goal.decreases-loop-first
decreases-loop-first l = length l.rest
