-- The blocks added so far and those that are left are all blocks.
use Rattle.std.specs.Prelude.{◌≡◌, length}
use Rattle.std.proofs.Common.{reverse}
use Rattle.compiler_assembly.specs.Assembling.{with_blocks}
use Rattle.compiler_assembly.proofs.assembler.Assembler.add_blocks.Given as goal

abbrev pub invariant-loop-block : goal.invariant-loop-block
invariant-loop-block g l = record {
  count : l.pc ≡ length l.self.builder.instructions;
  whole : with_blocks l.self.pool l.self.builder l.pc (reverse l.left.items) ≡ with_blocks l.fn.self.pool l.fn.self.builder 0 l.fn.blocks.items;
}

abbrev pub decreases-loop-block : goal.decreases-loop-block
decreases-loop-block g l = length l.left.items
