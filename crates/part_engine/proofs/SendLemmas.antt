-- The fields of a part may be sent to other threads: a ladder from terms up, since a term contains terms and no search
-- goes from a part down to them.
use denote.RattleType.{RattleType}
use denote.Param.Send.{IsSend, IsSync, Frees, sendable}
use Rattle.std.proofs.CrossingOver.{crosses}
use Rattle.std.specs.declared.alloc.Allocator.{Ghosts}
use Rattle.term_core.proofs.term.Term.TheLaws.TheKnot.{both_send-Term}
use Rattle.term_core.specs.contracts.term.Term.{the_row as term_row}
use Rattle.part_engine.specs.contracts.hashed.HashedRow.{the_row as hashed_row}
use Rattle.part_engine.specs.contracts.stored.StoredPart.{the_row as stored_row}
use Rattle.part_engine.proofs.stored.StoredPart.TheSendSync as stored

module _ (A : RattleType) (g : Ghosts A.Denot) (s : IsSend A) (y : IsSync A) (f : Frees g g.dealloc_token) where
  pub term_send : IsSend (term_row A g)
  term_send = search (sendable, crosses, both_send-Term) depth 40

  pub hashed_send : IsSend (hashed_row A g)
  hashed_send = search (sendable, crosses, term_send) depth 40

  -- a part may be sent if its rows may
  pub part_send : (R : RattleType) → IsSend R → IsSend (stored_row R A g)
  part_send R r = search (sendable, crosses, stored.the_send) depth 40
