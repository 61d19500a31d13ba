use Rattle.code_writer.specs.Spelling.{instruction_bytes}
use Rattle.code_writer.specs.File.{HoldsArguments}
use Rattle.code_writer.proofs.WriteLemmas.{written_more, written_each}
use Rattle.code_writer.proofs.instr.put_instrs.Goals as goal

pub loop-instr-preserved : goal.loop-instr-preserved
loop-instr-preserved g c = written_more instruction_bytes HoldsArguments _ c.loop-instr.instr-index _ _ _ _ c.loop-instr.invariant c.loop-instr-test.true c.in_ok-put_instr.ensures.bytes c.in_ok-put_instr.ensures.held

pub returns-clause-held : goal.returns-clause-held
returns-clause-held g c = written_each instruction_bytes HoldsArguments _ c.loop-instr.instr-index _ _ c.loop-instr.invariant c.loop-instr-test.false
