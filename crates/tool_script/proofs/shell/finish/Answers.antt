use Rattle.std.proofs.Common.{◌∙◌, eqb-true, sym, length}
use Rattle.std.proofs.lemmas.Result.{on_ok_weaker}
use Rattle.tool_script.proofs.ShellLemmas.{given_stops, some_of, stands_ended, stands_given, told_stops}
use Rattle.tool_script.proofs.shell.finish.Goals as goal

pub returns-then-is_empty-clause-ok : goal.returns-then-is_empty-clause-ok
returns-then-is_empty-clause-ok g c =
    let none = eqb-true (length c.args.begun.now) 0 (sym c.is_empty.ensures ∙ c.if-is_empty.true) in
    on_ok_weaker c.write_lines.result (λ w known left old t. stands_ended c.args.script.now known left old (g.W.Write.contents c.args.writer.now) (g.W.Write.contents c.write_lines.new.writer) c.args.begun.now c.args.lines.now.items none t w) c.write_lines.ensures.ok

pub returns-in-Ok-clause-ok : goal.returns-in-Ok-clause-ok
returns-in-Ok-clause-ok g c =
    let some = some_of (length c.args.begun.now) (sym c.is_empty.ensures ∙ c.if-is_empty.false) in
    on_ok_weaker c.write_lines-in-Ok.result (λ w known left old t. stands_given c.args.script.now c.answer_text.new.script known left old (g.W.Write.contents c.args.writer.now) (g.W.Write.contents c.answer_text.new.writer) (g.W.Write.contents c.write_lines-in-Ok.new.writer) c.args.begun.now c.args.lines.now.items c.answer_text.new.lines.items c.in-Ok._kept some t c.in-Ok.ensures.ok w) c.write_lines-in-Ok.ensures.ok

pub returns-in-Err-clause-stopped : goal.returns-in-Err-clause-stopped
returns-in-Err-clause-stopped g c =
    let some = some_of (length c.args.begun.now) (sym c.is_empty.ensures ∙ c.if-is_empty.false) in
    λ known left old t.
    told_stops known old (g.W.Write.contents c.answer_text.new.writer) (g.W.Write.contents c.told.new.writer) c.answer_text.new.lines.items c.in-Err.fault c.told.result
    (given_stops c.args.script.now known left old (g.W.Write.contents c.args.writer.now) (g.W.Write.contents c.answer_text.new.writer) c.args.begun.now c.args.lines.now.items c.answer_text.new.lines.items c.in-Err.fault some c.in-Err.ensures.stopped t) c.told.ensures
