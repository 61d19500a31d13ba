use Rattle.code_writer.specs.Spelling.{routine_bytes}
use Rattle.code_writer.specs.File.{HoldsRoutine}
use Rattle.code_writer.proofs.WriteLemmas.{IsWritten}
use Rattle.code_writer.proofs.routine.put_routines.Given as goal

abbrev pub invariant-loop-routine : goal.invariant-loop-routine
invariant-loop-routine g l = IsWritten routine_bytes HoldsRoutine l.routines l.routine-index l.initial.out.items l.out.items
