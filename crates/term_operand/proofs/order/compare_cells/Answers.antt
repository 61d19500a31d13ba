use Rattle.term_operand.proofs.OrderLemmas.{datum_cmp-cons_equal, datum_cmp-cons_other}
use Rattle.std.proofs.Common.{◌∙◌}
use Rattle.term_operand.proofs.order.compare_cells.Goals as goal

pub cells-preserved : goal.cells-preserved
cells-preserved g c =
    datum_cmp-cons_equal _ _ _ _ _ _ c.cmp.result c.in-Some.ensures c.in-Some-split.ensures c.cmp.ensures c.in-Equal.is ∙ c.cells.invariant

pub returns-in_default-cmp : goal.returns-in_default-cmp
returns-in_default-cmp g c =
    datum_cmp-cons_other _ _ _ _ _ _ c.cmp.result c.in-Some.ensures c.in-Some-split.ensures c.cmp.ensures c.in_default-cmp.not-Equal ∙ c.cells.invariant
