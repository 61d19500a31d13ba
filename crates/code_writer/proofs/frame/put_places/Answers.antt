use Rattle.code_writer.specs.Spelling.{place_bytes}
use Rattle.code_writer.specs.File.{HoldsPlace}
use Rattle.code_writer.proofs.WriteLemmas.{written_more, written_each}
use Rattle.code_writer.proofs.frame.put_places.Goals as goal

pub loop-place-preserved : goal.loop-place-preserved
loop-place-preserved g c = written_more place_bytes HoldsPlace _ c.loop-place.place-index _ _ _ _ c.loop-place.invariant c.loop-place-test.true c.in_ok-put_place.ensures.bytes c.in_ok-put_place.ensures.held

pub returns-clause-held : goal.returns-clause-held
returns-clause-held g c = written_each place_bytes HoldsPlace _ c.loop-place.place-index _ _ c.loop-place.invariant c.loop-place-test.false
