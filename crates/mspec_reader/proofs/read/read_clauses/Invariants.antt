-- what is read so far
use Rattle.mspec_reader.proofs.ReadingLemmas.{ClausesFront}
use Rattle.mspec_reader.proofs.read.read_clauses.Given as goal

abbrev pub invariant-loop-number : goal.invariant-loop-number
invariant-loop-number g l = ClausesFront l.terms l.number l.clauses.items
