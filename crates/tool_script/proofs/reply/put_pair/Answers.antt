use Rattle.std.specs.Prelude.{codes}
use Rattle.std.proofs.Common.{◌∙◌, ◌++◌, ap, refl, sym}
use Rattle.std.proofs.lemmas.Result.{on_ok_weaker}
use Rattle.tool_script.proofs.TextLemmas.{put_five, put_line_as, piece_line}
use Rattle.tool_script.proofs.reply.put_pair.Goals as goal

pub returns : goal.returns
returns g c =
    on_ok_weaker c.extend_from_slice-3.result
    (λ p. put_five _ _ _ _ _ _ _ _ _ _ _ c.in_ok-extend_from_slice.ensures.items c.in_ok-put_list.ensures c.in_ok-extend_from_slice-2.ensures.items c.in_ok-put_number.ensures p
    ∙ ap (λ l. c.args.text.now.items ++ l) (sym (piece_line c.args.answers.now c.args.number)))
    (put_line_as c.extend_from_slice-3.result c.put_number.new.text.items _ (codes "}.\n") (codes "}.\n") refl c.extend_from_slice-3.ensures.items)
