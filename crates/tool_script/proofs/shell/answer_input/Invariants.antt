-- The shell is between two lines, and it is known what the end of the pending text is within.
use Rattle.std.proofs.Common.{◌≡◌}
use Rattle.std.specs.Io.Buffered.{reader_remaining}
use Rattle.tool_script.specs.declared.line.Progress.TheVariants as progress
use Rattle.tool_script.specs.declared.line.Within.TheVariants as within
use Rattle.tool_script.specs.Line.{within_end}
use Rattle.tool_script.specs.Shells.{Stands}
use Rattle.tool_script.proofs.shell.answer_input.Given as goal

abbrev pub invariant-loop-line : goal.invariant-loop-line
invariant-loop-line g l =
    Stands l.script progress.More (reader_remaining g.R.Read.remaining l.fn.input) (reader_remaining g.R.Read.remaining l.input) (g.W.Write.contents l.fn.writer) (g.W.Write.contents l.writer) l.begun.items l.lines.items
    × (l.within ≡ within_end within.Nothing l.begun.items)
