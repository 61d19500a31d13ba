-- The operands so far and the remaining values make up the whole, and there is room while there are few.
use Rattle.std.proofs.Common.{◌≡◌, ◌++◌, ◌≤◌, length, map, drop}
use Rattle.term_operand.specs.Operand.{operand_datum}
use Rattle.term_operand.specs.Value.{value_datum}
use Rattle.prims.specs.declared.values.TheConstants.{INLINE_OPERANDS}
use Rattle.prims.proofs.values.lasting.Given as goal

abbrev pub invariant-loop-value : goal.invariant-loop-value
invariant-loop-value g l =
    (map operand_datum l.operands.items ++ map value_datum (drop l.value-index l.values) ≡ map value_datum l.values)
    × (length l.operands.items ≡ l.value-index)
    × (INLINE_OPERANDS ≤ l.operands.capacity)
