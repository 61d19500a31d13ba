use Rattle.std.proofs.Common.{take}
use Rattle.std.specs.Prelude.{All}
use Rattle.tool_scan.specs.Options.{IsFit}
use Rattle.tool_scan.proofs.objects.check_objects.Given as goal

abbrev pub invariant-loop-term : goal.invariant-loop-term
invariant-loop-term g l = All (IsFit l.options) (take l.term-index l.terms)
