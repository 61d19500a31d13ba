-- The script is in the state after the terms so far, which were taken up, and their lines are written or gathered.
use Rattle.std.proofs.Common.{take}
use Rattle.tool_script.specs.Script.{ScriptState}
use Rattle.tool_script.specs.Scripts.{AreTaken, HasState}
use Rattle.tool_script.proofs.GatherLemmas.{Gathered}
use Rattle.tool_script.proofs.run.run_terms.Given as goal

abbrev pub invariant-loop-term : goal.invariant-loop-term
invariant-loop-term g l =
    ((after : ScriptState) × HasState l.script after
    × Gathered (take l.term-index l.terms) after (g.W.Write.contents l.fn.writer) (g.W.Write.contents l.writer) l.lines.items)
    × AreTaken l.fn.script l.script l.term-index
