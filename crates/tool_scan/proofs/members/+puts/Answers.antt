use Rattle.std.proofs.Common.{rules}
use denote.Param.Send.{sendable}
use Rattle.std.proofs.CrossingOver.{crosses}
use Rattle.tool_scan.proofs.MembersLemmas.{both_put}
use Rattle.tool_scan.proofs.SharesSent.{shares_sync}
use Rattle.tool_scan.proofs.members.+puts.Goals as goal

pub put_both-join_mut-one-requires-send-F : goal.put_both-join_mut-one-requires-send-F
put_both-join_mut-one-requires-send-F g t c κs within = search (sendable, crosses, shares_sync) depth 40

pub put_both-returns : goal.put_both-returns
put_both-returns g t c =
    both_put g.T.TryTurns.is_ready g.T.TryTurns.home g.T.TryTurns.sees c.args.shares.now.objects.now c.args.shares.now.numbers.now c.args.number c.join_mut-one.result.0 c.in_ok-one.field-0 c.join_mut-one.result.1 c.args.first.now c.join_mut-one.new.f.2.now _ c.args.rest.now c.join_mut-one.new.g.2.now _ (search rules) (search rules) (search rules) c.join_mut-one.ensures.0.met.1 c.join_mut-one.ensures.1.met.1
