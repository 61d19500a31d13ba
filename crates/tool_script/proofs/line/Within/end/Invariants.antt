use Rattle.std.proofs.Common.{◌≡◌, length}
use Rattle.tool_script.specs.Line.{within_end}
use Rattle.tool_script.proofs.line.Within.end.Given as goal

abbrev pub invariant-loop-first : goal.invariant-loop-first
invariant-loop-first l = within_end l.within l.rest ≡ within_end l.fn.self l.bytes

abbrev pub decreases-loop-first : goal.decreases-loop-first
decreases-loop-first l = length l.rest
