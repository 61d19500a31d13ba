use Rattle.std.proofs.Common.{◌<◌, length, arith}
use Rattle.std.proofs.lemmas.List.{take_all}
use Rattle.std.proofs.lemmas.Result.{on_ok_weaker, MatchResult-weaker}
use Rattle.tool_script.proofs.GatherLemmas.{gathered_more, gathered_passed, gathered_written, stops_early}
use Rattle.tool_script.proofs.TakenLemmas.{taken_more}
use Rattle.tool_script.proofs.run.run_terms.Goals as goal

pub loop-term-preserved : goal.loop-term-preserved
loop-term-preserved g c =
    let there : c.loop-term.term-index < length c.args.terms.now = omega arith in
    let so_far = c.loop-term.invariant.0 in
    let put = c.in-Ok.ensures.ok so_far.0 so_far.1 in
    let taken = taken_more c.args.script.now c.loop-term.script c.put_next.new.script c.loop-term.term-index c.loop-term.invariant.1 c.put_next.ensures.taken in
    ((put.1, put.3, gathered_passed _ put.1 _ _ _ _ _ (gathered_more c.args.terms.now c.loop-term.term-index c.term-item.result put.0 so_far.0 put.1 _ _ c.loop-term.lines.items _ there c.term-item.is so_far.2 put.2 put.4) c.in_ok-write_if_many-in-Ok.ensures.ok), taken)

pub returns-clause-ok : goal.returns-clause-ok
returns-clause-ok g c =
    let gathered = rw (take_all c.loop-term.term-index c.args.terms.now c.loop-term-test.false) at c.loop-term.invariant.0.2 in
    on_ok_weaker c.write_lines.result (λ p. gathered_written _ c.loop-term.invariant.0.0 _ _ _ _ gathered p) c.write_lines.ensures.ok

pub returns-in-Err-clause-stopped : goal.returns-in-Err-clause-stopped
returns-in-Err-clause-stopped g c =
    let same = c.in-Err.ensures.err in
    let ends = rw same at c.out_of_memory.ensures in
    let there : c.loop-term.term-index < length c.args.terms.now = omega arith in
    stops_early c.args.script.now c.loop-term.script c.put_next.new.script c.args.terms.now c.loop-term.term-index c.loop-term.invariant.0.0 _ _ _ _ c.out_of_memory.result there c.loop-term.invariant.0.2 c.loop-term.invariant.1 c.put_next.ensures.taken ends

pub returns-clause-stopped : goal.returns-clause-stopped
returns-clause-stopped g c = MatchResult-weaker c.write_lines.result c.write_lines.ensures.failed (λ x p. p) (λ y e. rw e tt)
