use Rattle.std.proofs.Common.{◌≡◌, ◌∙◌, ◌++◌, ap, sym, rules, pos}
use Rattle.std.specs.Prelude.{codes}
use Rattle.std.proofs.lemmas.Result.{on_ok_weaker}
use Rattle.term_core.specs.Datum.Datum.{integer}
use Rattle.tool_io.specs.Lines.{text_of}
use Rattle.tool_script.proofs.TextLemmas.{error_line}
use Rattle.tool_script.proofs.reply.put_error.Goals as goal

pub returns-clause-ok : goal.returns-clause-ok
returns-clause-ok g c =
    let number : c.int-number.result ≡ integer (pos c.args.number) = search rules in
    on_ok_weaker c.put_line.result (λ p. p ∙ ap (λ l. c.args.lines.now.items ++ l) (ap (λ d. codes "{error," ++ (text_of d ++ codes "}.\n")) number ∙ sym (error_line c.args.number)))
    c.put_line.ensures.ok
