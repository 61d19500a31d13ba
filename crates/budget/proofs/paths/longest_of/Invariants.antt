-- from the place on that the pass has reached, each number is right
use Rattle.std.specs.Prelude.{◌-◌, length}
use Rattle.budget.specs.Pass.{AreLongest, AreSmall, code_of}
use Rattle.budget.proofs.paths.longest_of.Given as goal

abbrev pub invariant-loop-pc : goal.invariant-loop-pc
invariant-loop-pc g l =
    AreLongest (code_of l.instructions) l.budgets l.numbers.items l.pc
    × AreSmall l.numbers.items (length l.instructions - l.pc)
