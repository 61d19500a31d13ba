use Rattle.code_writer.specs.Spelling.{routine_bytes}
use Rattle.code_writer.specs.File.{HoldsRoutine}
use Rattle.code_writer.proofs.WriteLemmas.{written_next, written_each}
use Rattle.code_writer.proofs.routine.put_routines.Goals as goal

pub loop-routine-preserved : goal.loop-routine-preserved
loop-routine-preserved g c =
    written_next routine_bytes HoldsRoutine _ c.loop-routine.routine-index _ _ _ _ c.loop-routine.invariant c.loop-routine-test.true c.routine-item.is c.in_ok-put_routine.ensures.bytes c.in_ok-put_routine.ensures.held

pub returns-clause-held : goal.returns-clause-held
returns-clause-held g c = written_each routine_bytes HoldsRoutine _ c.loop-routine.routine-index _ _ c.loop-routine.invariant c.loop-routine-test.false
