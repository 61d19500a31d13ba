use denote.Param.Send.{sendable}
use Rattle.std.proofs.Common.{vec_items}
use Rattle.std.proofs.CrossingOver.{crosses}
use Rattle.mcode.specs.Answer.{answer_of}
use Rattle.rayon.proofs.ListFacts.{IfOk-then}
use Rattle.parallel_list.proofs.RunLemmas.{joined}
use Rattle.parallel_list.proofs.Sent.{term_send, term_sync, verified_sync}
use Rattle.parallel_list.proofs.list.answer_runs.Goals as goal

pub map_runs-requires-send-F : goal.map_runs-requires-send-F
map_runs-requires-send-F g c κs within = search (sendable, crosses, verified_sync) depth 30

pub map_runs-requires-send-X : goal.map_runs-requires-send-X
map_runs-requires-send-X g c κs within = search (sendable, crosses, term_send) depth 40

pub map_runs-requires-sync-T : goal.map_runs-requires-sync-T
map_runs-requires-sync-T g c κs within = search (sendable, crosses, term_sync) depth 30

pub map_runs-requires-sync-F : goal.map_runs-requires-sync-F
map_runs-requires-sync-F g c κs within = search (sendable, crosses, verified_sync) depth 30

pub returns : goal.returns
returns g c =
    IfOk-then c.map_runs.result _ _ c.map_runs.ensures (λ v h.
    IfOk-then v _ _ h (λ made each. joined vec_items (answer_of c.args.code.now) c.args.objects.now made.items each))
