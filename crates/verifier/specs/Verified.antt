-- What is known about verified code.
use Rattle.std.specs.Prelude.{ℕ, suc, ◌+◌, ◌≡◌, ◌≤◌, List, [], Some, length, replicate, slice_get, slice_index}
use Rattle.budget.specs.Paths.{IsBodyBudget, IsBudget, most_budget}
use Rattle.mcode.specs.Program.{Program, Frame, frame_at, body_of}
use Rattle.verifier.specs.Typing.{IsBodyDepth, IsTyped, AreTypedFrom, IsDepth, IsOwnDepth}

-- what is stored about a body: for each instruction with a frame, by its number, the frame's depth; and the body's own
-- depth
pub record Table : Type 0 where
  pub depths : List ℕ
  pub own : ℕ

-- the depth of the frame of each instruction that has one, by its number
abbrev pub AreDepths : Program → List ℕ → Type 0
AreDepths p depths =
    (pc : ℕ) (f : Frame) → frame_at p.frames pc ≡ Some f → slice_get depths pc ≡ Some f.depth

-- this is the table of a body
pub record IsTable (p : Program) (t : Table) : Type 0 where
  pub depths : AreDepths p t.depths
  pub own : IsOwnDepth p t.own

-- from a body on, these are the tables of all bodies, the last first
pub record AreTables (p : Program) (from : ℕ) (tables : List Table) : Type 0 where
  pub count : length tables + from ≡ suc (length p.around.routines)
  pub each : (b n : ℕ) → from ≤ b → b + n ≡ length p.around.routines
      → (t : Table) × (slice_get tables n ≡ Some t) × IsTable (body_of p b) t

-- a body is typed, and these are its table, its depth and its budget, given the depths and budgets of the bodies with
-- higher numbers
pub record IsFound (p : Program) (ds budgets : List ℕ) (table : Table) (depth budget : ℕ) : Type 0 where
  pub deep : IsBodyDepth p ds depth
  pub kept : IsTable p table
  pub limit : IsBodyBudget p budgets budget
  pub few : budget ≤ most_budget

-- the bodies from one on are typed, and these are their depths and budgets; no budget is above the limit
pub record IsKnown (p : Program) (from : ℕ) (depths budgets : List ℕ) : Type 0 where
  pub typed : AreTypedFrom p from depths budgets
  pub few : (b : ℕ) → slice_index budgets b ≤ most_budget

-- what is known before the last of this number of bodies is checked
pub record IsStart (count : ℕ) (depths budgets : List ℕ) (tables : List Table) : Type 0 where
  pub deep : depths ≡ replicate count 0
  pub limits : budgets ≡ replicate count 0
  pub none : tables ≡ []

-- the code is typed, and these are the table of its main body, the tables of its routines, its budget and its depth
pub record IsVerified (p : Program) (main : Table) (tables : List Table) (budget depth : ℕ) : Type 0 where
  pub typing : IsTyped p
  pub kept : IsTable p main
  pub routines : AreTables p 1 tables
  pub limit : IsBudget p budget
  pub deepest : IsDepth p depth
