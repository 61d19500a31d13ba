-- The lines of the replies to the terms so far are appended, and some of them passed on; these terms were taken up.
use Rattle.std.proofs.Common.{take}
use Rattle.tool_script.specs.Scripts.{AreTaken}
use Rattle.tool_script.specs.Shells.{AreAnswered}
use Rattle.tool_script.proofs.shell.put_replies.Given as goal

abbrev pub invariant-loop-term : goal.invariant-loop-term
invariant-loop-term g l =
    AreAnswered l.fn.script l.script (take l.term-index l.terms) (g.W.Write.contents l.fn.writer) (g.W.Write.contents l.writer) l.fn.lines.items l.lines.items
    × AreTaken l.fn.script l.script l.term-index
