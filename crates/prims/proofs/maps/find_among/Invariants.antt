-- The value of the key is its value among the remaining pairs.
use Rattle.std.specs.Prelude.{◌≡◌, length}
use Rattle.term_core.specs.Datum.{entries_of}
use Rattle.term_operand.specs.Operand.{operand_datum}
use Rattle.prims.specs.Maps.{value_at}
use Rattle.prims.proofs.maps.find_among.Given as goal

abbrev pub invariant-loop-pair : goal.invariant-loop-pair
invariant-loop-pair g l = value_at (operand_datum l.key) (entries_of l.pairs) ≡ value_at (operand_datum l.key) (entries_of l.left)

abbrev pub decreases-loop-pair : goal.decreases-loop-pair
decreases-loop-pair g l = length l.left
