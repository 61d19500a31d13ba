use denote.Param.Send.{sendable}
use Rattle.std.proofs.Common.{map}
use Rattle.part_hash.proofs.SendLemmas.{hash_part_send}
use Rattle.tool_cli.specs.Words.{asked}
use Rattle.tool_cli.proofs.EndLemmas.{ends_asked, ends_command}
use Rattle.tool_cli.proofs.program.run_words.Goals as goal

pub returns-in-Err : goal.returns-in-Err
returns-in-Err g c =
    let ends = c.end_unasked.ensures in
    ends_asked (asked (map g.S.AsStr.text c.args.words.now)) c.in-Err.error _ _ _ _ _ _ _ c.in-Err.ensures
    (record { help = ends.help; version = ends.version; memory = ends.memory; ended = ends.ended })

pub returns-in-Ok : goal.returns-in-Ok
returns-in-Ok g c =
    ends_command (asked (map g.S.AsStr.text c.args.words.now)) c.in-Ok.invocation _ _ _ _ _ _ _ c.in-Ok.ensures c.run_invocation.ensures

pub run_invocation-requires-send-P : goal.run_invocation-requires-send-P
run_invocation-requires-send-P g c κs = search (sendable, hash_part_send) depth 40
