use Rattle.std.proofs.Common.{◌≡◌, length}
use Rattle.std.specs.Str.{chars}
use denote.Text.{Utf8}
use denote.Shadow.{shadow}
use Rattle.mcode.specs.Answer.{answer_of}
use Rattle.tool_query.specs.Answers.Report.{answers}
use Rattle.tool_query.proofs.AnswerLemmas.{Answered}
use Rattle.tool_query.proofs.answers.run_lines.Given as goal

abbrev pub invariant-loop-scratch : goal.invariant-loop-scratch
invariant-loop-scratch g l = shadow (Utf8 l.left) × Answered (answers l.form) (λ object answer. answer ≡ answer_of l.code object) (chars l.fn.rest) (chars l.left) l.lines.items

abbrev pub decreases-loop-scratch : goal.decreases-loop-scratch
decreases-loop-scratch g l = length (chars l.left)
