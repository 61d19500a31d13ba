use Rattle.tool_script.proofs.TextLemmas.{put_line_as, end_line}
use Rattle.tool_script.proofs.reply.put_key.Goals as goal

pub returns-in-None-clause-ok : goal.returns-in-None-clause-ok
returns-in-None-clause-ok g c =
    rw c.in-None.is (put_line_as c.extend_from_slice.result _ _ _ _ end_line c.extend_from_slice.ensures.items)
