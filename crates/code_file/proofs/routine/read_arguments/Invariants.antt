use Rattle.code_writer.specs.Formats.{any_kind_format}
use Rattle.code_file.proofs.RowLemmas.{IsRowSoFar}
use Rattle.code_file.proofs.routine.read_arguments.Given as goal

abbrev pub invariant-loop-read : goal.invariant-loop-read
invariant-loop-read g l = IsRowSoFar any_kind_format (λ _. Unit {0}) l.bytes l.kinds.items l.rest l._read
