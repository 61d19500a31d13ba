-- It is known what the end of the pending text is within.
use Rattle.std.proofs.Common.{◌≡◌}
use Rattle.tool_script.specs.declared.line.Within.TheVariants as within
use Rattle.tool_script.specs.Line.{within_end}
use Rattle.tool_script.proofs.prompt.answer_input.Given as goal

abbrev pub invariant-loop-line : goal.invariant-loop-line
invariant-loop-line g l = l.within ≡ within_end within.Nothing l.begun.items
