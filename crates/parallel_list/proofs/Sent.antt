-- Terms and verified code may be seen by other threads, and terms handed to them.
use denote.RattleType.{RattleType}
use denote.Param.Send.{IsSend, IsSync, Frees, sendable}
use Rattle.std.proofs.CrossingOver.{crosses}
use Rattle.std.specs.declared.alloc.Allocator.{Ghosts}
use Rattle.term_core.proofs.term.Term.TheLaws.TheKnot.{both_send-Term, both_sync-Term}
use Rattle.term_core.specs.contracts.term.Term.{the_row as term_row}
use Rattle.mcode.proofs.frame.Frame.TheSendSync as frame
use Rattle.mcode.proofs.instr.Instr.TheSendSync as instr
use Rattle.mcode.proofs.parts.Parts.TheSendSync as parts
use Rattle.mcode.proofs.routine.Routine.TheSendSync as routine
use Rattle.mcode.specs.contracts.code.Code.{the_row as code_row}
use Rattle.mcode_fused.proofs.op.Op.TheSendSync as op
use Rattle.verifier.proofs.verified.Table.TheSendSync as table
use Rattle.verifier.specs.contracts.verified.Verified.{the_row as verified_row}

module _ (A : RattleType) (g : Ghosts A.Denot) (s : IsSend A) (y : IsSync A) (f : Frees g g.dealloc_token) where
  pub term_send : IsSend (term_row A g)
  term_send = search (sendable, crosses, both_send-Term) depth 40

  pub term_sync : IsSync (term_row A g)
  term_sync = search (sendable, crosses, both_sync-Term) depth 40

  pub code_sync : IsSync (code_row A g)
  code_sync = search (sendable, crosses, term_sync, frame.the_sync, instr.the_sync, parts.the_sync, routine.the_sync) depth 40

  pub verified_sync : IsSync (verified_row A g)
  verified_sync = search (sendable, crosses, code_sync, op.the_sync, table.the_sync) depth 40
