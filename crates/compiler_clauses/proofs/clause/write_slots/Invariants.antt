-- the ranks of the numbers so far
use Rattle.std.proofs.Common.{◌≡◌, map, take}
use Rattle.mspec_syntax.specs.Rising.{rank_of}
use Rattle.compiler_clauses.proofs.clause.write_slots.Given as goal

abbrev pub invariant-loop-number : goal.invariant-loop-number
invariant-loop-number g l = l.ranks.items ≡ map (rank_of l.slots) (take l.number-index l.number-items)
