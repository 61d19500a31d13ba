use Rattle.std.proofs.Common.{take}
use Rattle.tool_scan.proofs.AnswersLemmas.{IsGathered}
use Rattle.tool_scan.proofs.answers.write_answers.Given as goal

abbrev pub invariant-loop-answer : goal.invariant-loop-answer
invariant-loop-answer g l =
    IsGathered (take l.answer-index l.answers) (g.W.Write.contents l.fn.writer) (g.W.Write.contents l.writer) l.lines.items
