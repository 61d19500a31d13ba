use Rattle.std.proofs.Common.{rules}
use denote.Param.Send.{sendable}
use Rattle.std.proofs.CrossingOver.{crosses}
use Rattle.parallel_select.specs.Gained.{purpose_of}
use Rattle.parallel_select.proofs.gained.Asking.TheSendSync as asking
use Rattle.parallel_select.proofs.QuerySent.{query_sync}
use Rattle.parallel_select.proofs.WorkersLemmas.{first_tallied}
use Rattle.parallel_select.proofs.workers.+tallies.Goals as goal

pub tally_both-join_mut-requires-send-F : goal.tally_both-join_mut-requires-send-F
tally_both-join_mut-requires-send-F g t c κs within = search (sendable, crosses, query_sync, asking.the_sync) depth 40

pub tally_both-returns : goal.tally_both-returns
tally_both-returns g t c =
    first_tallied g.T.TryTurns.is_ready g.T.TryTurns.home g.T.TryTurns.sees c.args.query.now c.args.workers (purpose_of c.args.asking) c.args.number c.join_mut.result.0.count c.join_mut.result.1.count c.together.result.count c.join_mut.result.0.refused c.join_mut.result.1.refused c.together.result.refused c.args.first.now c.join_mut.new.f.5.now _ c.args.rest.now c.join_mut.new.g.5.now _ (search rules) (search rules) c.join_mut.ensures.0.met.1 c.join_mut.ensures.1.met.1 c.together.ensures.0 c.together.ensures.1
