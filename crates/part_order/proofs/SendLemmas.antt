-- The part of an ordered set may be sent to other threads if it uses the global allocator: this follows from what is
-- known of maps.
use denote.Param.Send.{IsSend, sendable}
use Rattle.std.proofs.Crossing as heap
use Rattle.std.proofs.MapsCrossing as maps
use Rattle.std_heap.specs.contracts.Global as Heap
use Rattle.std_heap.specs.contracts.GlobalAllocator.TheImpl.{ghosts}
use Rattle.term_core.specs.contracts.term.Term.{the_row as term_row}
use Rattle.part_core.specs.contracts.held.Held.{the_row as held_row}
use Rattle.part_engine.specs.contracts.stored.StoredPart.{the_row as stored_row}
use Rattle.part_engine.proofs.SendLemmas.{term_send, part_send}
use Rattle.part_order.specs.contracts.rows.OrderRows.{the_row as order_rows}

term_at_heap : IsSend (term_row Heap.the_row ghosts)
term_at_heap = term_send Heap.the_row ghosts heap.send heap.sync heap.frees

held_send : IsSend (held_row Heap.the_row ghosts)
held_send = search (sendable, heap.crosses, term_at_heap) depth 40

order_rows_send : IsSend (order_rows Heap.the_row ghosts)
order_rows_send = search (sendable, heap.crosses, maps.crosses, term_at_heap, held_send, heap.send, heap.frees) depth 40

pub order_part_send : IsSend (stored_row (order_rows Heap.the_row ghosts) Heap.the_row ghosts)
order_part_send =
    part_send Heap.the_row ghosts heap.send heap.sync heap.frees (order_rows Heap.the_row ghosts) order_rows_send
