-- the operands so far and the remaining values make up the whole
use Rattle.std.proofs.Common.{◌≡◌, ◌++◌, map, drop}
use Rattle.term_operand.specs.Operand.{operand_datum}
use Rattle.term_operand.specs.Value.{value_datum}
use Rattle.prims.proofs.values.operands_of.Given as goal

abbrev pub invariant-loop-value : goal.invariant-loop-value
invariant-loop-value g l = map operand_datum l.operands.items ++ map value_datum (drop l.value-index l.values) ≡ map value_datum l.values
