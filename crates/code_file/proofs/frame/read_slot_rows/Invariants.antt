use Rattle.mcode.specs.Program.{Rise}
use Rattle.code_writer.specs.Formats.{u8_format}
use Rattle.code_file.proofs.RowLemmas.{IsRowSoFar}
use Rattle.code_file.proofs.frame.read_slot_rows.Given as goal

abbrev pub invariant-loop-read : goal.invariant-loop-read
invariant-loop-read g l = IsRowSoFar u8_format (Rise (λ slot. slot)) l.bytes l.slots.items l.rest l._read
