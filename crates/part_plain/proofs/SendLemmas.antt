-- A plain part may be sent to other threads: its rows if its allocator may be, and the whole if it uses the global allocator.
use denote.RattleType.{RattleType}
use denote.Param.Send.{IsSend, IsSync, Frees, sendable}
use Rattle.std.proofs.CrossingOver.{crosses}
use Rattle.std.proofs.Crossing as heap
use Rattle.std_heap.specs.contracts.Global as Heap
use Rattle.std_heap.specs.contracts.GlobalAllocator.TheImpl.{ghosts}
use Rattle.std.specs.declared.alloc.Allocator.{Ghosts}
use Rattle.part_engine.specs.contracts.stored.StoredPart.{the_row as stored_row}
use Rattle.part_engine.proofs.SendLemmas.{hashed_send, part_send}
use Rattle.part_plain.specs.contracts.rows.PlainRows.{the_row as plain_rows}

module _ (A : RattleType) (g : Ghosts A.Denot) (s : IsSend A) (y : IsSync A) (f : Frees g g.dealloc_token) where
  pub plain_rows_send : IsSend (plain_rows A g)
  plain_rows_send = search (sendable, crosses, hashed_send) depth 40

pub plain_part_send : IsSend (stored_row (plain_rows Heap.the_row ghosts) Heap.the_row ghosts)
plain_part_send =
    part_send Heap.the_row ghosts heap.send heap.sync heap.frees (plain_rows Heap.the_row ghosts)
    (plain_rows_send Heap.the_row ghosts heap.send heap.sync heap.frees)
