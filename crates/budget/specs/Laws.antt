-- A law of budgets.
use Rattle.std.specs.Prelude.{ℕ, ◌≡◌}
use Rattle.mcode.specs.Program.{Program}
use Rattle.budget.specs.Paths.{IsBudget}

-- code has at most one budget
abbrev pub HasOneBudget : Type 0
HasOneBudget = (p : Program) (n m : ℕ) → IsBudget p n → IsBudget p m → n ≡ m
