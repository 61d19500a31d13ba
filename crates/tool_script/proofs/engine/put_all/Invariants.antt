-- The lines of the replies to the terms so far are appended, and these terms were taken up.
use Rattle.std.proofs.Common.{take}
use Rattle.tool_script.specs.Engine.{ArePut}
use Rattle.tool_script.specs.Scripts.{AreTaken}
use Rattle.tool_script.proofs.engine.put_all.Given as goal

abbrev pub invariant-loop-term : goal.invariant-loop-term
invariant-loop-term g l =
    ArePut l.fn.script l.script (take l.term-index l.terms) l.fn.lines.items l.lines.items
    × AreTaken l.fn.script l.script l.term-index
