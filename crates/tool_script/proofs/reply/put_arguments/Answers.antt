use Rattle.std.specs.Prelude.{codes}
use Rattle.std.proofs.Common.{◌≡◌, ◌∙◌, ◌++◌, ap, refl, sym, rules, Some}
use Rattle.std.proofs.lemmas.Result.{on_ok_weaker}
use Rattle.mspec_syntax.specs.FaultNumbers.{number_of, clause_of, variable_of}
use Rattle.tool_script.specs.Replies.{behind_commas}
use Rattle.tool_script.specs.Walks.{arguments}
use Rattle.tool_script.proofs.TextLemmas.{put_five, put_line_as, fault_line}
use Rattle.tool_script.proofs.reply.put_arguments.Goals as goal

pub returns : goal.returns
returns g c =
    let number : c.from.result ≡ number_of c.args.fault = search rules in
    let clause : c.map.result ≡ clause_of c.args.fault = search rules in
    let variable : c.map-2.result ≡ variable_of c.args.fault = search rules in
    let first = c.in_ok-put_argument.ensures ∙ ap (λ n. c.extend_from_slice.new.self.items ++ behind_commas (arguments (Some n))) number in
    let second = c.in_ok-put_argument-2.ensures ∙ ap (λ n. c.put_argument.new.text.items ++ behind_commas (arguments n)) clause in
    let third = c.in_ok-put_argument-3.ensures ∙ ap (λ n. c.put_argument-2.new.text.items ++ behind_commas (arguments n)) variable in
    on_ok_weaker c.extend_from_slice-2.result
    (λ p. put_five _ _ _ _ _ _ _ _ _ _ _ c.in_ok-extend_from_slice.ensures.items first second third p
    ∙ ap (λ l. c.args.text.now.items ++ l) (sym (fault_line c.args.fault)))
    (put_line_as c.extend_from_slice-2.result c.put_argument-3.new.text.items _ (codes "}.\n") (codes "}.\n") refl c.extend_from_slice-2.ensures.items)
