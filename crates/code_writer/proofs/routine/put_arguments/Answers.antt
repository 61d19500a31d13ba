use Rattle.code_writer.specs.Spelling.{any_kind_bytes}
use Rattle.code_writer.specs.File.{HoldsSize}
use Rattle.code_writer.proofs.WriteLemmas.{written_more, written_each}
use Rattle.code_writer.proofs.routine.put_arguments.Goals as goal

pub loop-kind-preserved : goal.loop-kind-preserved
loop-kind-preserved g c = written_more any_kind_bytes HoldsSize _ c.loop-kind.kind-index _ _ _ _ c.loop-kind.invariant c.loop-kind-test.true c.in_ok-put_any_kind.ensures.bytes c.in_ok-put_any_kind.ensures.held

pub returns-clause-held : goal.returns-clause-held
returns-clause-held g c = written_each any_kind_bytes HoldsSize _ c.loop-kind.kind-index _ _ c.loop-kind.invariant c.loop-kind-test.false
