-- Queries may be seen by other threads.
use denote.Ref.{NamedLft}
use denote.RattleType.{RattleType}
use denote.Param.Send.{IsSend, IsSync, Frees, sendable}
use Rattle.std.proofs.CrossingOver.{crosses}
use Rattle.std.specs.declared.alloc.Allocator.{Ghosts}
use Rattle.walk_query.specs.contracts.plan.NamedKeys.{the_row as keys_row}
use Rattle.walk_query.specs.contracts.query.Query.{the_row as query_row}
use Rattle.parallel_select.specs.contracts.workers.Plan.{the_row as plan_row}
use Rattle.parallel_list.proofs.Sent.{term_sync, verified_sync}

module _ (A : RattleType) (g : Ghosts A.Denot) (s : IsSend A) (y : IsSync A) (f : Frees g g.dealloc_token) where
  keys_sync : IsSync (keys_row A g)
  keys_sync = search (sendable, crosses, term_sync) depth 40

  pub query_sync : IsSync (query_row A g)
  query_sync = search (sendable, crosses, verified_sync, keys_sync) depth 40

  pub plan_sync : (q : NamedLft) → IsSync (plan_row q A g)
  plan_sync q = search (sendable, crosses, query_sync) depth 40
