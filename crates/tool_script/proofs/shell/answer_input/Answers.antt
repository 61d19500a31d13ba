use Rattle.std.proofs.Common.{◌≡◌, [], ap, rules, sym, subst}
use Rattle.std.specs.Prelude.{Ok}
use Rattle.std.specs.Io.Buffered.{reader_remaining}
use Rattle.std.proofs.lemmas.Result.{on_ok_weaker, IfErr-weaker}
use Rattle.tool_io.specs.declared.fault.ToolFault.TheVariants as fault
use Rattle.tool_script.specs.declared.line.Progress.TheVariants as progress
use Rattle.tool_script.specs.declared.line.Within.TheVariants as within
use Rattle.tool_script.specs.Line.{within_end}
use Rattle.tool_script.specs.Shells.{Stands}
use Rattle.tool_script.proofs.ShellLemmas.{stands_first, stands_hold, stands_passed, stood_at, told_stops}
use Rattle.tool_script.proofs.shell.answer_input.Goals as goal

pub loop-line-init : goal.loop-line-init
loop-line-init g c =
    let none : c.new-begun.result.items ≡ [] = search rules in (
      stands_first c.args.script.now (reader_remaining g.R.Read.remaining c.args.input.now) (g.W.Write.contents c.args.writer.now) c.new-begun.result.items c.new-lines.result.items none (search rules) c.requires.beginning,
      ap (within_end within.Nothing) (sym none),
    )

pub loop-line-preserved : goal.loop-line-preserved
loop-line-preserved g c =
    let is : c.answer_next.result ≡ Ok progress.More = search rules in
    let there = stands_passed c.loop-line.script progress.More (reader_remaining g.R.Read.remaining c.args.input.now) (reader_remaining g.R.Read.remaining c.loop-line.input) (g.W.Write.contents c.args.writer.now) (g.W.Write.contents c.loop-line.writer) (g.W.Write.contents c.write_before.new.writer) c.loop-line.begun.items c.loop-line.lines.items c.write_before.new.lines.items c.loop-line.invariant.0 c.in_ok-write_before.ensures.ok in
    (stood_at c.loop-line.script c.answer_next.new.script (reader_remaining g.R.Read.remaining c.loop-line.input) (reader_remaining g.R.Read.remaining c.answer_next.new.input) (g.W.Write.contents c.write_before.new.writer) (g.W.Write.contents c.answer_next.new.writer) c.loop-line.begun.items c.answer_next.new.begun.items c.write_before.new.lines.items c.answer_next.new.lines.items c.answer_next.result progress.More is c.answer_next.ensures.ok (reader_remaining g.R.Read.remaining c.args.input.now) (g.W.Write.contents c.args.writer.now) there, rw is at c.answer_next.ensures.within)

pub returns-in-Ok-End-clause-ok : goal.returns-in-Ok-End-clause-ok
returns-in-Ok-End-clause-ok g c =
    let is : c.answer_next.result ≡ Ok progress.End = search rules in
    let there = stands_passed c.loop-line.script progress.More (reader_remaining g.R.Read.remaining c.args.input.now) (reader_remaining g.R.Read.remaining c.loop-line.input) (g.W.Write.contents c.args.writer.now) (g.W.Write.contents c.loop-line.writer) (g.W.Write.contents c.write_before.new.writer) c.loop-line.begun.items c.loop-line.lines.items c.write_before.new.lines.items c.loop-line.invariant.0 c.in_ok-write_before.ensures.ok in
    let last = stood_at c.loop-line.script c.answer_next.new.script (reader_remaining g.R.Read.remaining c.loop-line.input) (reader_remaining g.R.Read.remaining c.answer_next.new.input) (g.W.Write.contents c.write_before.new.writer) (g.W.Write.contents c.answer_next.new.writer) c.loop-line.begun.items c.answer_next.new.begun.items c.write_before.new.lines.items c.answer_next.new.lines.items c.answer_next.result progress.End is c.answer_next.ensures.ok (reader_remaining g.R.Read.remaining c.args.input.now) (g.W.Write.contents c.args.writer.now) there in
    let stands = subst (λ m. Stands c.answer_next.new.script progress.End (reader_remaining g.R.Read.remaining c.args.input.now) (reader_remaining g.R.Read.remaining c.answer_next.new.input) (g.W.Write.contents c.args.writer.now) (g.W.Write.contents c.answer_next.new.writer) m c.answer_next.new.lines.items) (sym c.as_slice.ensures.value) last in
    on_ok_weaker c.finish.result (λ h. h (reader_remaining g.R.Read.remaining c.args.input.now) (reader_remaining g.R.Read.remaining c.answer_next.new.input) (g.W.Write.contents c.args.writer.now) stands) c.finish.ensures.ok

pub returns-in-Ok-End-clause-stopped : goal.returns-in-Ok-End-clause-stopped
returns-in-Ok-End-clause-stopped g c =
    let is : c.answer_next.result ≡ Ok progress.End = search rules in
    let there = stands_passed c.loop-line.script progress.More (reader_remaining g.R.Read.remaining c.args.input.now) (reader_remaining g.R.Read.remaining c.loop-line.input) (g.W.Write.contents c.args.writer.now) (g.W.Write.contents c.loop-line.writer) (g.W.Write.contents c.write_before.new.writer) c.loop-line.begun.items c.loop-line.lines.items c.write_before.new.lines.items c.loop-line.invariant.0 c.in_ok-write_before.ensures.ok in
    let last = stood_at c.loop-line.script c.answer_next.new.script (reader_remaining g.R.Read.remaining c.loop-line.input) (reader_remaining g.R.Read.remaining c.answer_next.new.input) (g.W.Write.contents c.write_before.new.writer) (g.W.Write.contents c.answer_next.new.writer) c.loop-line.begun.items c.answer_next.new.begun.items c.write_before.new.lines.items c.answer_next.new.lines.items c.answer_next.result progress.End is c.answer_next.ensures.ok (reader_remaining g.R.Read.remaining c.args.input.now) (g.W.Write.contents c.args.writer.now) there in
    let stands = subst (λ m. Stands c.answer_next.new.script progress.End (reader_remaining g.R.Read.remaining c.args.input.now) (reader_remaining g.R.Read.remaining c.answer_next.new.input) (g.W.Write.contents c.args.writer.now) (g.W.Write.contents c.answer_next.new.writer) m c.answer_next.new.lines.items) (sym c.as_slice.ensures.value) last in
    IfErr-weaker c.finish.result _ _ (λ f h. h (reader_remaining g.R.Read.remaining c.args.input.now) (reader_remaining g.R.Read.remaining c.answer_next.new.input) (g.W.Write.contents c.args.writer.now) stands) c.finish.ensures.stopped

pub returns-in-Err-clause-stopped : goal.returns-in-Err-clause-stopped
returns-in-Err-clause-stopped g c =
    let there = stands_passed c.loop-line.script progress.More (reader_remaining g.R.Read.remaining c.args.input.now) (reader_remaining g.R.Read.remaining c.loop-line.input) (g.W.Write.contents c.args.writer.now) (g.W.Write.contents c.loop-line.writer) (g.W.Write.contents c.write_before.new.writer) c.loop-line.begun.items c.loop-line.lines.items c.write_before.new.lines.items c.loop-line.invariant.0 c.in_ok-write_before.ensures.ok in
    told_stops (reader_remaining g.R.Read.remaining c.args.input.now) (g.W.Write.contents c.args.writer.now) (g.W.Write.contents c.answer_next.new.writer) (g.W.Write.contents c.told.new.writer) c.answer_next.new.lines.items c.in-Err.fault c.told.result
    (c.in-Err.ensures.stopped (reader_remaining g.R.Read.remaining c.args.input.now) (g.W.Write.contents c.args.writer.now) there) c.told.ensures

pub returns-clause-stopped : goal.returns-clause-stopped
returns-clause-stopped g c =
    told_stops (reader_remaining g.R.Read.remaining c.args.input.now) (g.W.Write.contents c.args.writer.now) (g.W.Write.contents c.loop-line.writer) (g.W.Write.contents c.told-2.new.writer) c.loop-line.lines.items fault.ReadFailed c.told-2.result
    (stands_hold c.loop-line.script (reader_remaining g.R.Read.remaining c.args.input.now) (reader_remaining g.R.Read.remaining c.loop-line.input) (g.W.Write.contents c.args.writer.now) (g.W.Write.contents c.loop-line.writer) c.loop-line.begun.items c.loop-line.lines.items c.loop-line.invariant.0) c.told-2.ensures
