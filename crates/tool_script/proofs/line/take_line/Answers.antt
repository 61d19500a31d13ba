use Rattle.std.proofs.Common.{◌≡◌, ◌∙◌, rules, drop, length, ap, subst}
use Rattle.tool_script.specs.Line.{EndsLine}
use Rattle.tool_script.proofs.LineLemmas.{slice_end, taken}
use Rattle.tool_script.proofs.line.take_line.Goals as goal

pub returns-in-Ok-clause-ok : goal.returns-in-Ok-clause-ok
returns-in-Ok-clause-ok g c =
    let size : c.len-start.result ≡ length c.args.bytes.now.items = search rules in
    let now : c.deref.result.now ≡ c.read_until.new.buf.items = search rules in
    let whole = slice_end c.deref.result.now c.len-start.result ∙ ap (drop c.len-start.result) now ∙ ap (λ n. drop n c.read_until.new.buf.items) size in
    taken _ _ _ _ _ c.read_until.ensures.appends c.read_until.ensures.stops c.read_until.ensures.none_lost c.in-Ok.ensures.bytes (subst (λ l. EndsLine l c.later_progress.result) whole c.later_progress.ensures)
