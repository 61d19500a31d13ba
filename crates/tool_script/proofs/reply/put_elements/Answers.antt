use Rattle.std.specs.Prelude.{codes}
use Rattle.std.proofs.Common.{refl}
use Rattle.std.proofs.lemmas.Result.{on_ok_weaker}
use Rattle.tool_script.proofs.TextLemmas.{put_line_as, list_put}
use Rattle.tool_script.proofs.reply.put_elements.Goals as goal

pub returns : goal.returns
returns g c =
    on_ok_weaker c.extend_from_slice.result (λ p. list_put _ _ _ _ c.args.first.now c.args.rest.now c.in_ok-put_line.ensures.ok c.in_ok-put_more.ensures p)
    (put_line_as c.extend_from_slice.result c.put_more.new.text.items _ (codes "]") (codes "]") refl c.extend_from_slice.ensures.items)
