use Rattle.std.specs.Prelude.{codes}
use Rattle.std.proofs.Common.{◌≡◌, ◌∙◌, ◌++◌, ap, refl, sym, rules, Some}
use Rattle.std.proofs.lemmas.Result.{on_ok_weaker}
use Rattle.term_text.specs.FaultNumbers.{number_of, place_of}
use Rattle.tool_script.specs.Replies.{behind_commas}
use Rattle.tool_script.specs.Walks.{arguments}
use Rattle.tool_script.proofs.RefusalLemmas.{place_line, put_four}
use Rattle.tool_script.proofs.TextLemmas.{put_line_as}
use Rattle.tool_script.proofs.reply.put_place.Goals as goal

pub returns : goal.returns
returns g c =
    let number : c.from.result ≡ number_of c.args.fault = search rules in
    let place : c.map.result ≡ place_of c.args.fault = search rules in
    let first = c.in_ok-put_argument.ensures ∙ ap (λ n. c.extend_from_slice.new.self.items ++ behind_commas (arguments (Some n))) number in
    let second = c.in_ok-put_argument-2.ensures ∙ ap (λ n. c.put_argument.new.text.items ++ behind_commas (arguments n)) place in
    on_ok_weaker c.extend_from_slice-2.result
    (λ p. put_four _ _ _ _ _ _ _ _ _ c.in_ok-extend_from_slice.ensures.items first second p
    ∙ ap (λ l. c.args.text.now.items ++ l) (sym (place_line c.args.fault)))
    (put_line_as c.extend_from_slice-2.result c.put_argument-2.new.text.items _ (codes "}.\n") (codes "}.\n") refl c.extend_from_slice-2.ensures.items)
