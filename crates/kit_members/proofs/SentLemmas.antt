-- A plain or a hashed part can be sent to other threads if its allocator is a borrowed `Failing` one.
use mir.Syntax.{Dict, Lifetime}
use base.Fml.{Lft}
use denote.RattleType.{RattleType}
use denote.Ref.{ShrRef}
use denote.Param.Send.{IsSend, IsSync, Frees, sendable, struct_send}
use denote.Struct.Struct.{Struct}
use denote.Struct.Declared.{shape}
use Rattle.std.proofs.CrossingOver.{crosses}
use Rattle.std.proofs.Crossing as heap
use Rattle.std_heap.specs.contracts.Global as Heap
use Rattle.std_heap.specs.contracts.GlobalAllocator.TheImpl.{ghosts as heap_ghosts}
use Rattle.std.specs.declared.alloc.Allocator.{Ghosts}
use Rattle.std.specs.contracts.prelude.RefAllocator.TheImpl.{ghosts as lent_ghosts}
use Rattle.kit_alloc.specs.contracts.failing.Failing.{the_row as failing_row}
use Rattle.kit_alloc.specs.contracts.failing.FailingAllocator.TheImpl.{ghosts as failing_ghosts}
use Rattle.kit_alloc.proofs.failing.FailingAllocator.TheSendSync as failing
use Rattle.slab.specs.contracts.Slab.{the_row as slab_row}
use Rattle.slab.proofs.Slab.TheSendSync as slab
use Rattle.hash_index.specs.contracts.index.HashIndex.{the_row as index_row}
use Rattle.hash_index.proofs.index.HashIndex.TheSendSync as index
use Rattle.part_engine.proofs.SendLemmas.{term_send, part_send}
use Rattle.part_hash.proofs.places.Slot.TheSendSync as slot
use Rattle.part_hash.specs.contracts.row.Row.{the_row as hash_row}
use Rattle.part_hash.specs.contracts.places.Slot.{the_row as slot_row}
use Rattle.part_hash.specs.contracts.store.Store.{the_type as store_type}
use Rattle.part_hash.specs.contracts.rows.HashRows.{the_row as hash_rows}
use Rattle.part_plain.proofs.SendLemmas.{plain_rows_send}
use Rattle.part_plain.specs.contracts.rows.PlainRows.{the_row as plain_rows}
use Rattle.part_engine.specs.contracts.stored.StoredPart.{the_row as stored_row}

failing_sync : IsSync (failing_row Heap.the_row)
failing_sync = search (sendable, heap.crosses) depth 40

lent_send : (ℓ : Lifetime) (κ : Lft) → IsSend (ShrRef ℓ κ (failing_row Heap.the_row))
lent_send ℓ κ = search (sendable, failing_sync)

lent_sync : (ℓ : Lifetime) (κ : Lft) → IsSync (ShrRef ℓ κ (failing_row Heap.the_row))
lent_sync ℓ κ = search (sendable, failing_sync)

-- a block can be freed in any thread through a borrowed allocator
lent_frees : (A : RattleType) (g : Ghosts A.Denot) (d e : Dict) → Frees g g.dealloc_token → Frees (lent_ghosts A g d e) (lent_ghosts A g d e).dealloc_token
lent_frees A g d e f = record { frees = λ r. f.frees r.now }

-- the rows of a hashed part can be sent, over any allocator that can
module _ (A : RattleType) (g : Ghosts A.Denot) (s : IsSend A) (y : IsSync A) (f : Frees g g.dealloc_token) where
  row_send : IsSend (hash_row A g)
  row_send = search (sendable, crosses, term_send) depth 40

  slot_send : IsSend (slot_row A g)
  slot_send = slot.the_send A g s f

  index_send : IsSend (index_row A g)
  index_send = index.the_send A g s f

  slab_send : IsSend (slab_row (hash_row A g) A g)
  slab_send = slab.the_send (hash_row A g) A g row_send s f

  store_send : IsSend (Struct (shape (store_type A g)))
  store_send = struct_send (shape (store_type A g)) (slab_send, (index_send, (search (sendable), (search (sendable, crosses, slot_send), (search (sendable), (search (sendable, crosses), (search (sendable), tt)))))))

  hash_rows_send : IsSend (hash_rows A g)
  hash_rows_send = search (sendable, store_send) depth 40

-- rows and part borrow the allocator, for a lifetime each
module _ (ℓ ℓ' : Lifetime) (κ κ' : Lft) (d e f h : Dict) where
  abbrev Lent : Lifetime → Lft → RattleType
  Lent m ν = ShrRef m ν (failing_row Heap.the_row)

  abbrev ghosts : Ghosts (Lent ℓ κ).Denot
  ghosts = lent_ghosts (failing_row Heap.the_row) (failing_ghosts Heap.the_row heap_ghosts d e) f h

  frees : Frees ghosts ghosts.dealloc_token
  frees =
      lent_frees (failing_row Heap.the_row) (failing_ghosts Heap.the_row heap_ghosts d e) f h
      (failing.the_frees Heap.the_row heap_ghosts d e heap.frees)

  pub refused_part_send : IsSend (stored_row (plain_rows (Lent ℓ κ) ghosts) (Lent ℓ' κ') ghosts)
  refused_part_send =
      part_send (Lent ℓ' κ') ghosts (lent_send ℓ' κ') (lent_sync ℓ' κ') frees (plain_rows (Lent ℓ κ) ghosts)
      (plain_rows_send (Lent ℓ κ) ghosts (lent_send ℓ κ) (lent_sync ℓ κ) frees)

  pub refused_hash_part_send : IsSend (stored_row (hash_rows (Lent ℓ κ) ghosts) (Lent ℓ' κ') ghosts)
  refused_hash_part_send =
      part_send (Lent ℓ' κ') ghosts (lent_send ℓ' κ') (lent_sync ℓ' κ') frees (hash_rows (Lent ℓ κ) ghosts)
      (hash_rows_send (Lent ℓ κ) ghosts (lent_send ℓ κ) (lent_sync ℓ κ) frees)
