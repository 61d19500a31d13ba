use Rattle.std.proofs.Common.{◌≡◌, ◌∙◌, ap, refl, rules, subst}
use Rattle.std.specs.Io.Buffered.{reader_buffer, reader_capacity}
use Rattle.std.proofs.lemmas.Result.{on_ok_weaker, IfErr-weaker}
use Rattle.tool_io.specs.Terms.{OfInput}
use Rattle.tool_script.specs.Shell.{WritesAnswers, StopsShell}
use Rattle.tool_script.proofs.ShellLemmas.{ahead_none}
use Rattle.tool_script.proofs.shell.run_shell.Goals as goal

pub returns-in-Ok-clause-ok : goal.returns-in-Ok-clause-ok
returns-in-Ok-clause-ok g c =
    let inner : c.in-Ok.input.inner.now ≡ c.args.reader.now = rw c.in-Ok.ensures.inner refl in
    let ahead = ahead_none (reader_capacity c.in-Ok.input) (reader_buffer c.in-Ok.input) (g.R.Read.remaining c.in-Ok.input.inner.now) c.in-Ok.ensures.capacity c.in-Ok.ensures.empty ∙ ap g.R.Read.remaining inner in
    on_ok_weaker c.answer_input.result (λ h. subst (λ k. OfInput k (λ input. WritesAnswers input (g.W.Write.contents c.args.writer.now) (g.W.Write.contents c.answer_input.new.writer))) ahead h) c.answer_input.ensures.ok

pub returns-in-Ok-clause-stopped : goal.returns-in-Ok-clause-stopped
returns-in-Ok-clause-stopped g c =
    let inner : c.in-Ok.input.inner.now ≡ c.args.reader.now = search rules in
    let ahead = ahead_none (reader_capacity c.in-Ok.input) (reader_buffer c.in-Ok.input) (g.R.Read.remaining c.in-Ok.input.inner.now) c.in-Ok.ensures.capacity c.in-Ok.ensures.empty ∙ ap g.R.Read.remaining inner in
    IfErr-weaker c.answer_input.result _ _ (λ f h. subst (λ k. StopsShell k (g.W.Write.contents c.args.writer.now) (g.W.Write.contents c.answer_input.new.writer) f) ahead h) c.answer_input.ensures.stopped
