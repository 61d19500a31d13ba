use Rattle.code_writer.specs.Spelling.{place_bytes}
use Rattle.code_writer.specs.File.{HoldsPlace}
use Rattle.code_writer.proofs.WriteLemmas.{IsWritten}
use Rattle.code_writer.proofs.frame.put_places.Given as goal

abbrev pub invariant-loop-place : goal.invariant-loop-place
invariant-loop-place g l = IsWritten place_bytes HoldsPlace l.places l.place-index l.initial.out.items l.out.items
