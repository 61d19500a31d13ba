use Rattle.std.proofs.Common.{◌<◌, length, arith}
use Rattle.std.proofs.lemmas.List.{take_all}
use Rattle.std.proofs.lemmas.Result.{on_ok_weaker}
use Rattle.tool_scan.proofs.AnswersLemmas.{gathered_more, gathered_none, gathered_passed, gathered_written, stops_early}
use Rattle.tool_scan.proofs.answers.write_answers.Goals as goal

pub loop-answer-init : goal.loop-answer-init
loop-answer-init g c = rw c.new-lines.ensures.items (gathered_none c.args.answers.now _)

pub loop-answer-preserved : goal.loop-answer-preserved
loop-answer-preserved g c =
    let there : c.loop-answer.answer-index < length c.args.answers.now = omega arith in
    gathered_passed _ _ _ _ _ _
    (gathered_more c.args.answers.now c.loop-answer.answer-index c.answer-item.result _ _ _ _ there c.answer-item.is c.loop-answer.invariant c.in-Ok.ensures.ok)
    c.in_ok-write_if_many-in-Ok.ensures.ok

pub returns-clause-ok : goal.returns-clause-ok
returns-clause-ok g c =
    let gathered = rw (take_all c.loop-answer.answer-index c.args.answers.now c.loop-answer-test.false) at c.loop-answer.invariant in
    on_ok_weaker c.write_lines.result (λ p. gathered_written _ _ _ _ _ gathered p) c.write_lines.ensures.ok

pub returns-in-Err-clause-stopped : goal.returns-in-Err-clause-stopped
returns-in-Err-clause-stopped g c =
    let same = c.in-Err.ensures.err in
    let ends = rw same at c.out_of_memory.ensures in
    stops_early c.args.answers.now c.loop-answer.answer-index _ _ _ _ c.out_of_memory.result c.loop-answer.invariant ends
