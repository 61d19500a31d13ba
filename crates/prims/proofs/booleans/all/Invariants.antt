use Rattle.std.proofs.Common.{◌≡◌, ◌&&◌, map, drop}
use Rattle.std.specs.Prelude.{Some}
use Rattle.term_operand.specs.Operand.{operand_datum}
use Rattle.prims.specs.Booleans.{both, all_of}
use Rattle.prims.proofs.booleans.all.Given as goal

abbrev pub invariant-loop-operand : goal.invariant-loop-operand
invariant-loop-operand g l =
    both (λ a b. a && b) (Some l.all) (all_of (map operand_datum (drop l.operand-index l.operands))) ≡ all_of (map operand_datum l.operands)
