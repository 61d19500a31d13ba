use Rattle.std.proofs.Common.{◌≡◌}
use Rattle.code_writer.specs.Formats.{instruction_format}
use Rattle.code_file.specs.Parts.{with_instructions}
use Rattle.code_file.proofs.RowLemmas.{IsRowSoFar}
use Rattle.code_file.proofs.body.read_instr_rows.Given as goal

abbrev pub invariant-loop-read : goal.invariant-loop-read
invariant-loop-read g l = IsRowSoFar (instruction_format l.most) (λ _. Unit {0}) l.bytes l.builder.instructions l.rest l._read × (l.builder ≡ with_instructions l.fn.builder l.builder.instructions)
