use Rattle.std.proofs.Common.{◌≡◌, ◌∙◌, ap, length, rules}
use Rattle.std.proofs.lemmas.Result.{err_from_is_err_and}
use Rattle.tool_script.proofs.ShellLemmas.{next_stands, next_stops, unread_stops}
use Rattle.tool_script.specs.declared.line.Within.TheVariants as within
use Rattle.tool_script.specs.Line.{within_end}
use Rattle.tool_script.proofs.LineLemmas.{begun_front}
use Rattle.tool_script.proofs.shell.answer_next.Goals as goal

pub returns-in_err-progress-clause-stopped : goal.returns-in_err-progress-clause-stopped
returns-in_err-progress-clause-stopped g c =
    let back = err_from_is_err_and c.from_residual.result c.from_residual.ensures.1 in
    rw (back.1, back.2) (λ known old t. unread_stops c.args.script.now known (g.B.Read.remaining c.args.input.now) old (g.W.Write.contents c.args.writer.now) c.args.begun.now.items c.args.lines.now.items c.in_err-progress.field-0.0 c.in_err-progress.ensures.failed t)

pub returns-in-Ok-clause-ok : goal.returns-in-Ok-clause-ok
returns-in-Ok-clause-ok g c =
    let size : c.len-start.result ≡ length c.args.begun.now.items = search rules in
    let answered = rw c.as_slice.ensures.value at c.in-Ok.ensures.ok in
    λ known old t. next_stands c.args.script.now c.answer_line.new.script c.in_ok-progress.progress known (g.B.Read.remaining c.args.input.now) (g.B.Read.remaining c.take_line.new.input) old (g.W.Write.contents c.args.writer.now) (g.W.Write.contents c.answer_line.new.writer) c.args.begun.now.items c.take_line.new.bytes.items c.keep.new.begun.items c.args.lines.now.items c.answer_line.new.lines.items c.len-start.result c.in-Ok.is_kept
    size c.keep.ensures.kept c.in_ok-progress.ensures.ok answered t

pub returns-in-Err-clause-stopped : goal.returns-in-Err-clause-stopped
returns-in-Err-clause-stopped g c =
    let size : c.len-start.result ≡ length c.args.begun.now.items = search rules in
    let stops = rw c.as_slice.ensures.value at c.in-Err.ensures.stopped in
    λ known old t. next_stops c.args.script.now c.in_ok-progress.progress known (g.B.Read.remaining c.args.input.now) (g.B.Read.remaining c.take_line.new.input) old (g.W.Write.contents c.args.writer.now) (g.W.Write.contents c.answer_line.new.writer) c.args.begun.now.items c.take_line.new.bytes.items c.args.lines.now.items c.answer_line.new.lines.items c.len-start.result c.in-Err.fault
    size c.in_ok-progress.ensures.ok stops t

pub answer_line-requires-clause-within : goal.answer_line-requires-clause-within
answer_line-requires-clause-within g c =
    let size : c.len-start.result ≡ length c.args.begun.now.items = search rules in
    let grown = c.in_ok-progress.ensures.ok.gained in
    let now : c.as_slice.result.now ≡ c.take_line.new.bytes.items = search rules in
    c.requires.within ∙ ap (within_end within.Nothing) (begun_front c.args.begun.now.items _ _ c.len-start.result size (now ∙ grown))

pub keep-requires-clause-within : goal.keep-requires-clause-within
keep-requires-clause-within g c =
    let size : c.len-start.result ≡ length c.args.begun.now.items = search rules in
    let grown = c.in_ok-progress.ensures.ok.gained in
    c.requires.within ∙ ap (within_end within.Nothing) (begun_front c.args.begun.now.items _ _ c.len-start.result size grown)
