use Rattle.tool_script.proofs.TextLemmas.{put_line_as, empty_text}
use Rattle.tool_script.proofs.reply.put_list.Goals as goal

pub returns-in_default : goal.returns-in_default
returns-in_default g c =
    put_line_as c.extend_from_slice.result _ _ _ _ (empty_text c.args.objects.now c.in_default.len_below) c.extend_from_slice.ensures.items
