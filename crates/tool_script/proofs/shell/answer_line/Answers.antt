use Rattle.std.proofs.Common.{take, drop}
use Rattle.std.proofs.lemmas.List.{take-append-drop}
use Rattle.std.proofs.lemmas.Result.{IfErr-weaker, IfOk-weaker}
use Rattle.tool_script.specs.declared.line.Effect.TheVariants as effect
use Rattle.tool_script.proofs.ShellLemmas.{at_line, given_up_stops, line_given, line_kept, line_looked, line_passed, looked_stops}
use Rattle.tool_script.proofs.shell.answer_line.Goals as goal

pub returns-in-Passes-clause-ok : goal.returns-in-Passes-clause-ok
returns-in-Passes-clause-ok g c =
    line_passed c.args.script.now (take c.args.start c.args.text.now) (drop c.args.start c.args.text.now) _ c.args.lines.now.items (at_line effect.Passes c.args.text.now c.args.start c.in-Passes.ensures)

pub returns-in-GoesOn-clause-ok : goal.returns-in-GoesOn-clause-ok
returns-in-GoesOn-clause-ok g c =
    line_kept c.args.script.now (take c.args.start c.args.text.now) (drop c.args.start c.args.text.now) _ c.args.lines.now.items (at_line effect.GoesOn c.args.text.now c.args.start c.in-GoesOn.ensures)

pub returns-in-LooksAt-clause-ok : goal.returns-in-LooksAt-clause-ok
returns-in-LooksAt-clause-ok g c =
    IfOk-weaker c.answer_text.result _ _ (λ kept h. line_looked c.args.script.now c.answer_text.new.script (take c.args.start c.args.text.now) (drop c.args.start c.args.text.now) c.args.text.now kept _ _ c.args.lines.now.items c.answer_text.new.lines.items
    (take-append-drop c.args.start c.args.text.now) (at_line effect.LooksAt c.args.text.now c.args.start c.in-LooksAt.ensures) h) c.answer_text.ensures.ok

pub returns-in-GivesUp-clause-ok : goal.returns-in-GivesUp-clause-ok
returns-in-GivesUp-clause-ok g c =
    IfOk-weaker c.answer_text-in-GivesUp.result _ _ (λ kept h. line_given c.args.script.now c.answer_text-in-GivesUp.new.script (take c.args.start c.args.text.now) (drop c.args.start c.args.text.now) kept _ _ c.args.lines.now.items c.answer_text-in-GivesUp.new.lines.items
    (at_line effect.GivesUp c.args.text.now c.args.start c.in-GivesUp.ensures) h) c.answer_text-in-GivesUp.ensures.ok

pub returns-in-LooksAt-clause-stopped : goal.returns-in-LooksAt-clause-stopped
returns-in-LooksAt-clause-stopped g c =
    IfErr-weaker c.answer_text.result _ _ (λ f h. looked_stops c.args.script.now (take c.args.start c.args.text.now) (drop c.args.start c.args.text.now) c.args.text.now _ _ c.args.lines.now.items c.answer_text.new.lines.items f
    (take-append-drop c.args.start c.args.text.now) (at_line effect.LooksAt c.args.text.now c.args.start c.in-LooksAt.ensures) h) c.answer_text.ensures.stopped

pub returns-in-GivesUp-clause-stopped : goal.returns-in-GivesUp-clause-stopped
returns-in-GivesUp-clause-stopped g c =
    IfErr-weaker c.answer_text-in-GivesUp.result _ _ (λ f h. given_up_stops c.args.script.now (take c.args.start c.args.text.now) (drop c.args.start c.args.text.now) _ _ c.args.lines.now.items c.answer_text-in-GivesUp.new.lines.items f
    (at_line effect.GivesUp c.args.text.now c.args.start c.in-GivesUp.ensures) h) c.answer_text-in-GivesUp.ensures.stopped
