use Rattle.std.proofs.Common.{◌≡◌}
use Rattle.term_core.specs.Datum.{cell_count}
use Rattle.term_core.specs.Order.{datum_cmp}
use Rattle.term_operand.specs.Operand.{operand_datum}
use Rattle.term_operand.proofs.order.compare_cells.Given as goal

abbrev pub invariant-cells : goal.invariant-cells
invariant-cells g l =
    datum_cmp (operand_datum l.left) (operand_datum l.right) ≡ datum_cmp (operand_datum l.initial.left) (operand_datum l.initial.right)

abbrev pub decreases-cells : goal.decreases-cells
decreases-cells g l = cell_count (operand_datum l.left)
