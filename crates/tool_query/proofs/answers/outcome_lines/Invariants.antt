use Rattle.std.proofs.Common.{length}
use Rattle.std.specs.Str.{chars}
use denote.Text.{Utf8}
use denote.Shadow.{shadow}
use Rattle.mspec_meaning.specs.Meaning.{Means}
use Rattle.tool_query.specs.Answers.Report.{outcomes}
use Rattle.tool_query.proofs.AnswerLemmas.{Answered}
use Rattle.tool_query.proofs.answers.outcome_lines.Given as goal

abbrev pub invariant-loop-scratch : goal.invariant-loop-scratch
invariant-loop-scratch g l = shadow (Utf8 l.left) × Answered (outcomes l.form) (Means l.specification) (chars l.fn.rest) (chars l.left) l.lines.items

abbrev pub decreases-loop-scratch : goal.decreases-loop-scratch
decreases-loop-scratch g l = length (chars l.left)
