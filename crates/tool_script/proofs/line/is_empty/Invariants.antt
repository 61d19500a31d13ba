use Rattle.std.proofs.Common.{◌≡◌, length}
use Rattle.tool_script.specs.Line.{is_empty}
use Rattle.tool_script.proofs.line.is_empty.Given as goal

abbrev pub invariant-loop-first : goal.invariant-loop-first
invariant-loop-first l = is_empty l.rest ≡ is_empty l.line

abbrev pub decreases-loop-first : goal.decreases-loop-first
decreases-loop-first l = length l.rest
