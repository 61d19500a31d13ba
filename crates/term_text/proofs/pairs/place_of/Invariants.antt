-- The key is below the pairs that were looked at.
use Rattle.std.proofs.Common.{drop}
use Rattle.term_core.specs.Datum.{entries_of}
use Rattle.term_core.specs.Order.{IsBelowFirst}
use Rattle.term_text.proofs.pairs.place_of.Given as goal

abbrev pub invariant-loop-i : goal.invariant-loop-i
invariant-loop-i g l = IsBelowFirst l.key (entries_of (drop l.i l.pairs))
