use Rattle.std.proofs.Common.{◌<◌, length, inl, refl, arith}
use Rattle.std.proofs.lemmas.List.{take_all}
use Rattle.tool_script.proofs.EngineLemmas.{put_more, put_first, put_none}
use Rattle.tool_script.proofs.TakenLemmas.{taken_more}
use Rattle.tool_script.proofs.engine.put_all.Goals as goal

pub loop-term-init : goal.loop-term-init
loop-term-init g c = (put_none c.args.script.now c.args.lines.now.items, inl (omega arith))

pub returns-in-Err-clause-err : goal.returns-in-Err-clause-err
returns-in-Err-clause-err g c =
    let there : c.loop-term.term-index < length c.args.terms.now = omega arith in
    put_first c.args.script.now c.loop-term.script c.put_next.new.script c.args.terms.now c.loop-term.term-index c.args.lines.now.items c.loop-term.lines.items c.put_next.new.lines.items there c.loop-term.invariant.0 c.loop-term.invariant.1 c.put_next.ensures.taken c.in-Err.ensures.err

pub loop-term-preserved : goal.loop-term-preserved
loop-term-preserved g c =
    let there : c.loop-term.term-index < length c.args.terms.now = omega arith in (
      put_more c.args.script.now c.loop-term.script c.put_next.new.script c.args.terms.now c.loop-term.term-index c.term-item.result c.term-item.result c.args.lines.now.items c.loop-term.lines.items c.put_next.new.lines.items there c.term-item.is c.loop-term.invariant.0 c.in-Ok.ensures.ok,
      taken_more c.args.script.now c.loop-term.script c.put_next.new.script c.loop-term.term-index c.loop-term.invariant.1 c.put_next.ensures.taken,
    )

pub returns-clause-ok : goal.returns-clause-ok
returns-clause-ok g c = rw (take_all c.loop-term.term-index c.args.terms.now c.loop-term-test.false) at c.loop-term.invariant.0
