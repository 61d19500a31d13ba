-- The pass from the last instruction to the first, and what its numbers say.
use Rattle.std.specs.Prelude.{ℕ, ◌+◌, ◌*◌, ◌≡◌, ◌<◌, ◌≤◌, max, if◌then◌else◌, IfSome, List, [], length, slice_index}
use Rattle.std.specs.Option.{option_map_or}
use Rattle.mcode.specs.Program.{Program, alone}
use Rattle.mcode.specs.Instr.{target_of, goes_on}
use Rattle.mcode.specs.declared.instr.Instr.{Instr}
use Rattle.budget.specs.Paths.{IsAt, HasPath, IsLimitFrom, IsCallForward}

-- code of these instructions, without slots, constants and frames
abbrev pub code_of : List Instr → Program
code_of is =
    record { slots = 0; constants = []; instructions = is; frames = []; around = alone }

-- the instruction at a goes forward: if it jumps, and if it invokes a routine
abbrev pub IsStepForward : Program → ℕ → Type 0
IsStepForward p a =
    (i : Instr) → IsAt p a i → IfSome (target_of i) (λ b. (a < b) × (b < length p.instructions))
    × IsCallForward p i

-- n is the largest number that a path from a counts
pub record IsLongestFrom (p : Program) (budgets : List ℕ) (a n : ℕ) : Type 0 where
  pub reached : HasPath p budgets a n
  pub greatest : IsLimitFrom p budgets a n

-- from a place on, the number at each place is the largest that a path from there counts
pub record AreLongest (p : Program) (budgets numbers : List ℕ) (from : ℕ) : Type 0 where
  pub count : length numbers ≡ length p.instructions
  pub each : (a : ℕ) → from ≤ a → a < length p.instructions
      → IsLongestFrom p budgets a (slice_index numbers a)

-- a number that an instruction's count does not exceed
abbrev pub most_weight : ℕ
most_weight = 4294967296

-- no number is greater than what this number of instructions may count
abbrev pub AreSmall : List ℕ → ℕ → Type 0
AreSmall numbers count = (a : ℕ) → slice_index numbers a ≤ most_weight * count

-- the number at the place after a if instruction i goes on, else 0
abbrev pub next_number : Instr → ℕ → List ℕ → ℕ
next_number i a numbers = if goes_on i then slice_index numbers (a + 1) else 0

-- the number at the target of instruction i's jump, 0 if it does not jump
abbrev pub target_number : Instr → List ℕ → ℕ
target_number i numbers = option_map_or (slice_index numbers) (target_of i) 0

-- the greater of the numbers at the next place and at the target
abbrev pub onward_number : Instr → ℕ → List ℕ → ℕ
onward_number i a numbers = max (next_number i a numbers) (target_number i numbers)
