use Rattle.code_file.proofs.RoutineLemmas.{AreRoutinesSoFar}
use Rattle.code_file.proofs.routine.read_routines.Given as goal

abbrev pub invariant-loop-read : goal.invariant-loop-read
invariant-loop-read g l = AreRoutinesSoFar l.fn.builder l.bytes l.builder l.rest l._read
