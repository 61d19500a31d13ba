-- from the body on that the pass has reached, each budget is right and within the limit
use Rattle.std.specs.Prelude.{ℕ, ◌≤◌, slice_index}
use Rattle.budget.specs.Paths.{AreBudgets, most_budget}
use Rattle.budget.proofs.paths.longest.Given as goal

abbrev pub invariant-loop-number : goal.invariant-loop-number
invariant-loop-number g l =
    AreBudgets l.code l.number l.budgets.items
    × ((b : ℕ) → slice_index l.budgets.items b ≤ most_budget)
