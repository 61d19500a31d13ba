-- the bytes so far, with zeros after them
use Rattle.std.proofs.Common.{◌≡◌, take}
use Rattle.term_core.specs.Term.{padded}
use Rattle.term_core.proofs.term.bytes.row_of.Given as goal

abbrev pub invariant-loop-i : goal.invariant-loop-i
invariant-loop-i g l = l.row ≡ padded g.row.N (take l.i l.bytes)
