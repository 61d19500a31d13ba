-- the instructions that are left come before the lines so far
use Rattle.std.proofs.Common.{◌≡◌, ◌++◌, map, length}
use Rattle.compiler_assembly.specs.Line.{plain}
use Rattle.compiler_patterns.proofs.draft.prepend_all.Given as goal

abbrev pub invariant-loop-op : goal.invariant-loop-op
invariant-loop-op g l =
    map plain l.ops.items ++ l.lines ≡ map plain l.fn.ops.items ++ l.fn.lines

abbrev pub decreases-loop-op : goal.decreases-loop-op
decreases-loop-op g l = length l.ops.items
