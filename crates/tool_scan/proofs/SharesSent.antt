-- Objects with their numbers may be shared with other threads.
use denote.Ref.{NamedLft}
use denote.RattleType.{RattleType}
use denote.Param.Send.{IsSend, IsSync, Frees, sendable}
use Rattle.std.proofs.CrossingOver.{crosses}
use Rattle.std.specs.declared.alloc.Allocator.{Ghosts}
use Rattle.parallel_list.proofs.Sent.{term_sync}
use Rattle.tool_scan.specs.contracts.members.Shares.{the_row as shares_row}

module _ (A : RattleType) (g : Ghosts A.Denot) (s : IsSend A) (y : IsSync A) (f : Frees g g.dealloc_token) where
  pub shares_sync : (q : NamedLft) → IsSync (shares_row q A g)
  shares_sync q = search (sendable, crosses, term_sync) depth 40
