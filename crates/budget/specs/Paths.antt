-- Paths through code, and its budget.
use Rattle.std.specs.Prelude.{ℕ, suc, ◌+◌, ◌≡◌, ◌<◌, ◌≤◌, ◌⊎◌, IsTrue, IsSome, Option, Some, None, List, [], ◌∷◌, length, slice_get, slice_index}
use Rattle.mcode.specs.Program.{Program, body_of, routine_at}
use Rattle.mcode.specs.Instr.{target_of, goes_on}
use Rattle.mcode.specs.declared.instr.Instr.{Instr}
use Rattle.mcode.specs.declared.instr.Instr.TheVariants as instr

-- ---- paths of one body

-- instruction i is at a
abbrev pub IsAt : Program → ℕ → Instr → Type 0
IsAt p a i = slice_get p.instructions a ≡ Some i

-- from a, instruction i leads to b: it goes on and b is next, or it may jump to b
abbrev pub LeadsTo : Instr → ℕ → ℕ → Type 0
LeadsTo i a b = (IsTrue (goes_on i) × (b ≡ a + 1)) ⊎ (target_of i ≡ Some b)

-- the instruction at a leads to b, and b is inside the code
pub record HasEdge (p : Program) (a b : ℕ) : Type 0 where
  pub instr : Instr
  pub here : IsAt p a instr
  pub leads : LeadsTo instr a b
  pub inside : b < length p.instructions

-- A path from a, as the numbers of its instructions: a alone, which is inside the code, or a followed by a path from b,
-- if there is an edge from a to b.
pub data IsPathFrom (p : Program) : ℕ → List ℕ → Type 0 where
  alone : {a : ℕ} → a < length p.instructions → IsPathFrom p a (a ∷ [])
  onward : {a b : ℕ} {path : List ℕ} → HasEdge p a b → IsPathFrom p b path
      → IsPathFrom p a (a ∷ path)

-- ---- what paths count

-- The number of instructions that an instruction counts, given the budgets of all bodies: INVOKE counts itself and its
-- routine, any other instruction counts itself.
abbrev pub weight : List ℕ → Instr → ℕ
weight budgets (instr.Invoke r l) = suc (slice_index budgets r)
weight budgets i = 1

-- the number that the instruction at a place counts, 0 if there is none
abbrev pub weight_of : List ℕ → Option Instr → ℕ
weight_of budgets None = 0
weight_of budgets (Some i) = weight budgets i

-- the number of instructions that a path counts
abbrev pub counted : Program → List ℕ → List ℕ → ℕ
counted p budgets [] = 0
counted p budgets (a ∷ path) =
    weight_of budgets (slice_get p.instructions a) + counted p budgets path

-- some path from a counts n
abbrev pub HasPath : Program → List ℕ → ℕ → ℕ → Type 0
HasPath p budgets a n =
    (path : List ℕ) × IsPathFrom p a path × (counted p budgets path ≡ n)

-- no path from a counts more than n
abbrev pub IsLimitFrom : Program → List ℕ → ℕ → ℕ → Type 0
IsLimitFrom p budgets a n =
    (path : List ℕ) → IsPathFrom p a path → counted p budgets path ≤ n

-- ---- budgets

-- n is the largest number that a path of the body from instruction 0 counts, or 0 if there are no instructions
pub record IsBodyBudget (p : Program) (budgets : List ℕ) (n : ℕ) : Type 0 where
  pub reached : HasPath p budgets 0 n ⊎ ((p.instructions ≡ []) × (n ≡ 0))
  pub greatest : IsLimitFrom p budgets 0 n

-- from a body on, these are the budgets of all bodies
pub record AreBudgets (p : Program) (from : ℕ) (budgets : List ℕ) : Type 0 where
  pub count : length budgets ≡ suc (length p.around.routines)
  pub each : (b : ℕ) → from ≤ b → b ≤ length p.around.routines
      → IsBodyBudget (body_of p b) budgets (slice_index budgets b)

-- n is the largest number of instructions on a path from instruction 0 of the main body, where each INVOKE also counts
-- the budget of its routine
abbrev pub IsBudget : Program → ℕ → Type 0
IsBudget p n = (budgets : List ℕ) × AreBudgets p 0 budgets × (n ≡ slice_index budgets 0)

-- the largest budget that code may have
abbrev pub most_budget : ℕ
most_budget = 2147483648

-- the budget of a body is above `most_budget`, and that of no body with a higher number is
pub record IsOver (p : Program) (b : ℕ) : Type 0 where
  pub budgets : List ℕ
  pub inside : b ≤ length p.around.routines
  pub are : AreBudgets p b budgets
  pub over : most_budget < slice_index budgets b
  pub behind : (c : ℕ) → b < c → slice_index budgets c ≤ most_budget

-- no body has a budget above `most_budget`
pub record IsNowhereOver (p : Program) : Type 0 where
  pub budgets : List ℕ
  pub are : AreBudgets p 0 budgets
  pub few : (b : ℕ) → slice_index budgets b ≤ most_budget

-- ---- forward

-- each target of a jump of the instruction at a is after a and inside the body
abbrev pub AreJumpsForward : Program → Type 0
AreJumpsForward p =
    (a b : ℕ) (i : Instr) → IsAt p a i → target_of i ≡ Some b → (a < b)
    × (b < length p.instructions)

-- INVOKE names a routine that exists and has a higher number than the body; other instructions name none
abbrev pub IsCallForward : Program → Instr → Type 0
IsCallForward p (instr.Invoke r l) = (p.around.number < r) × IsSome (routine_at p r)
IsCallForward p i = Unit {0}

-- each jump and each INVOKE of the body goes forward
pub record IsForward (p : Program) : Type 0 where
  pub jumps : AreJumpsForward p
  pub calls : (a : ℕ) (i : Instr) → IsAt p a i → IsCallForward p i

-- each jump and each INVOKE of each body goes forward
abbrev pub AllForward : Program → Type 0
AllForward p = (b : ℕ) → b ≤ length p.around.routines → IsForward (body_of p b)
