use Rattle.std.proofs.Common.{refl, sym, subst}
use Rattle.std.proofs.lemmas.Result.{IfErr-weaker, IfOk-weaker}
use Rattle.term_text.specs.Text.{Spells}
use Rattle.tool_script.proofs.ShellLemmas.{looked_ok, looked_refused, refused_stops, text_stops}
use Rattle.tool_script.proofs.shell.answer_text.Goals as goal

pub returns-in-Ok-clause-ok : goal.returns-in-Ok-clause-ok
returns-in-Ok-clause-ok g c =
    let spells = subst (Spells c.args.text.now) (sym c.as_slice.ensures.value) c.in-Ok.ensures.ok in
    IfOk-weaker c.put_replies.result _ _ (λ kept h. looked_ok c.args.script.now c.put_replies.new.script c.args.is_given_up c.args.text.now c.as_slice.result.now _ _ c.args.lines.now.items c.put_replies.new.lines.items kept spells h) c.put_replies.ensures.ok

pub returns-in-Ok-clause-stopped : goal.returns-in-Ok-clause-stopped
returns-in-Ok-clause-stopped g c =
    let spells = subst (Spells c.args.text.now) (sym c.as_slice.ensures.value) c.in-Ok.ensures.ok in
    IfErr-weaker c.put_replies.result _ _ (λ f h. text_stops c.args.script.now c.put_replies.new.script c.args.text.now c.as_slice.result.now _ _ c.args.lines.now.items c.put_replies.new.lines.items f spells h) c.put_replies.ensures.stopped

pub returns-in-Err-clause-ok : goal.returns-in-Err-clause-ok
returns-in-Err-clause-ok g c =
    IfOk-weaker c.refuse.result _ _ (λ kept r. looked_refused c.args.script.now c.args.is_given_up c.args.text.now _ c.in-Err.fault kept _ c.args.lines.now.items c.refuse.new.lines.items refl c.in-Err.ensures.only c.in-Err.ensures.cause
    (λ at. (λ e. (c.in-Err.ensures.bad_utf8 at).0 (cc), λ v. let bad = (c.in-Err.ensures.bad_utf8 at).1 v in cc)) r) c.refuse.ensures.ok

pub returns-in-Err-clause-stopped : goal.returns-in-Err-clause-stopped
returns-in-Err-clause-stopped g c =
    refused_stops c.args.script.now c.args.text.now _ c.args.lines.now.items c.refuse.new.lines.items c.refuse.result c.refuse.ensures.failed c.refuse.ensures.err
