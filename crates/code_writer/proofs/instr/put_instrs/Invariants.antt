use Rattle.code_writer.specs.Spelling.{instruction_bytes}
use Rattle.code_writer.specs.File.{HoldsArguments}
use Rattle.code_writer.proofs.WriteLemmas.{IsWritten}
use Rattle.code_writer.proofs.instr.put_instrs.Given as goal

abbrev pub invariant-loop-instr : goal.invariant-loop-instr
invariant-loop-instr g l = IsWritten instruction_bytes HoldsArguments l.instrs l.instr-index l.initial.out.items l.out.items
