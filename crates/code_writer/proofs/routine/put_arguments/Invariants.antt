use Rattle.code_writer.specs.Spelling.{any_kind_bytes}
use Rattle.code_writer.specs.File.{HoldsSize}
use Rattle.code_writer.proofs.WriteLemmas.{IsWritten}
use Rattle.code_writer.proofs.routine.put_arguments.Given as goal

abbrev pub invariant-loop-kind : goal.invariant-loop-kind
invariant-loop-kind g l = IsWritten any_kind_bytes HoldsSize l.kinds l.kind-index l.initial.out.items l.out.items
