-- The lines added so far and those that are left are all lines.
use Rattle.std.specs.Prelude.{◌≡◌, ◌+◌, List, length}
use Rattle.compiler_assembly.specs.Assembling.{with_lines}
use Rattle.compiler_assembly.specs.Line.{Block}
use Rattle.compiler_assembly.proofs.assembler.Assembler.add_lines.Given as goal

abbrev pub invariant-loop-line : goal.invariant-loop-line
invariant-loop-line g l = record {
  behind : l.place.behind ≡ l.fn.place.behind;
  fits : l.place.pc + length l.lines ≡ l.place.behind;
  count : l.place.pc ≡ length l.self.builder.instructions;
  whole : (bs : List Block) → with_lines l.self.pool l.self.builder l.slots l.place.behind l.place.pc l.lines bs ≡ with_lines l.fn.self.pool l.fn.self.builder l.fn.slots l.fn.place.behind l.fn.place.pc l.fn.lines bs;
}

abbrev pub decreases-loop-line : goal.decreases-loop-line
decreases-loop-line g l = length l.lines
