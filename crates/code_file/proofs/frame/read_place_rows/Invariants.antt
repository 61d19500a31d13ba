use Rattle.mcode.specs.Program.{Rise, place_number}
use Rattle.code_writer.specs.Formats.{place_format}
use Rattle.code_file.proofs.RowLemmas.{IsRowSoFar}
use Rattle.code_file.proofs.frame.read_place_rows.Given as goal

abbrev pub invariant-loop-read : goal.invariant-loop-read
invariant-loop-read g l = IsRowSoFar place_format (Rise place_number) l.bytes l.places.items l.rest l._read
