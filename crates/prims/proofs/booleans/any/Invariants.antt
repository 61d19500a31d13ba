use Rattle.std.proofs.Common.{◌≡◌, ◌||◌, map, drop}
use Rattle.std.specs.Prelude.{Some}
use Rattle.term_operand.specs.Operand.{operand_datum}
use Rattle.prims.specs.Booleans.{both, any_of}
use Rattle.prims.proofs.booleans.any.Given as goal

abbrev pub invariant-loop-operand : goal.invariant-loop-operand
invariant-loop-operand g l =
    both (λ a b. a || b) (Some l.any) (any_of (map operand_datum (drop l.operand-index l.operands))) ≡ any_of (map operand_datum l.operands)
