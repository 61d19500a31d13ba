-- A hashed part may be sent to other threads, where its memory is the heap's.
use denote.RattleType.{RattleType}
use denote.Param.Send.{IsSend, IsSync, Frees, sendable}
use denote.Struct.Struct.{Struct}
use denote.Struct.Declared.{shape}
use Rattle.std.proofs.CrossingOver.{crosses}
use Rattle.std.proofs.Crossing as heap
use Rattle.std_heap.specs.contracts.Global as Heap
use Rattle.std_heap.specs.contracts.GlobalAllocator.TheImpl.{ghosts}
use Rattle.std.specs.declared.alloc.Allocator.{Ghosts}
use Rattle.slab.proofs.Slab.TheSendSync as slab
use Rattle.slab.proofs.Entry.TheSendSync as entry
use Rattle.hash_index.specs.contracts.index.HashIndex.{the_row as index_row}
use Rattle.part_engine.specs.contracts.stored.StoredPart.{the_row as stored_row}
use Rattle.hash_index.proofs.index.HashIndex.TheSendSync as index
use Rattle.part_engine.proofs.SendLemmas.{term_send, part_send}
use Rattle.part_hash.proofs.places.Slot.TheSendSync as slot
use Rattle.part_hash.specs.contracts.row.Row.{the_row as hash_row}
use Rattle.part_hash.specs.contracts.places.Slot.{the_row as slot_row}
use Rattle.part_hash.specs.contracts.store.Store.{the_type as store_type}
use Rattle.part_hash.specs.contracts.rows.HashRows.{the_row as hash_rows}

module _ (A : RattleType) (g : Ghosts A.Denot) (s : IsSend A) (y : IsSync A) (f : Frees g g.dealloc_token) where
  row_send : IsSend (hash_row A g)
  row_send = search (sendable, crosses, term_send) depth 40

-- From here on at the heap alone.
slot_send : IsSend (slot_row Heap.the_row ghosts)
slot_send = slot.the_send Heap.the_row ghosts heap.send heap.frees

index_send : IsSend (index_row Heap.the_row ghosts)
index_send = index.the_send Heap.the_row ghosts heap.send heap.frees

store_send : IsSend (Struct (shape (store_type Heap.the_row ghosts)))
store_send = let r = row_send Heap.the_row ghosts heap.send heap.sync heap.frees in search (sendable, heap.crosses, slot_send, index_send, slab.the_send, entry.the_send, heap.send, heap.frees) depth 40

hash_rows_send : IsSend (hash_rows Heap.the_row ghosts)
hash_rows_send = search (sendable, store_send) depth 40

pub hash_part_send : IsSend (stored_row (hash_rows Heap.the_row ghosts) Heap.the_row ghosts)
hash_part_send =
    part_send Heap.the_row ghosts heap.send heap.sync heap.frees (hash_rows Heap.the_row ghosts) hash_rows_send
