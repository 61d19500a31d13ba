use Rattle.std.proofs.Common.{◌≡◌, length}
use Rattle.tool_script.specs.Line.{is_idle}
use Rattle.tool_script.proofs.line.is_idle.Given as goal

abbrev pub invariant-loop-first : goal.invariant-loop-first
invariant-loop-first l = is_idle l.rest ≡ is_idle l.line

abbrev pub decreases-loop-first : goal.decreases-loop-first
decreases-loop-first l = length l.rest
