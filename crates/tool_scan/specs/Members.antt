-- What the sessions of a scan do: each inserts the objects of its parts, and then walks through these parts.
use Rattle.std.specs.Prelude.{ℕ, ◌≡◌, ◌+◌, ◌==◌, if◌then◌else◌, Some, Option, List, [], ◌∷◌, All, filter, length, map}
use Rattle.term_core.specs.Datum.{Datum}
use Rattle.mcode.specs.Program.{Program}
use Rattle.part_core.specs.Acts.Act.{Insert}
use Rattle.part_core.specs.Acts.Answer.{Replied}
use Rattle.part_core.specs.Acts.Purpose.{Answers}
use Rattle.part_core.specs.Acts.Said.{Nothing}
use Rattle.tables.specs.Calls.{TurnedByObject}
use Rattle.tables.specs.Turns.{Home, Views}
use Rattle.walk_core.specs.Walk.{Walk}
use Rattle.parallel_select.specs.Parts.{plan_in, is_share, answers_of, Works}
use Rattle.parallel_select.specs.Workers.{AreOfOneTable, Did, Each}
use Rattle.tool_scan.specs.Options.{is_own, table_of}
use Rattle.tool_scan.specs.declared.options.ScanOptions.{ScanOptions}

-- a session inserts objects, one after the other
abbrev pub Puts : Home → List Datum → Views → Views → Type 0
Puts h [] v w = w ≡ v
Puts h (t ∷ ts) v w =
    (u : Views) × TurnedByObject h t (Insert t) (Some (Replied Nothing)) v u × Puts h ts u w

-- a session's walk through one part, or through the keys of a plan that belong to this part
abbrev pub scan_walk : Home → Program → Option (List Datum) → ℕ → Walk
scan_walk h program plan part = record {
  options = h.options;
  number = h.number;
  purpose = Answers;
  program = program;
  plan = plan_in h.options part plan;
  from = part;
  to = part + 1;
}

-- of objects, each with a number alongside, those with the number `n`
abbrev pub those_of : ℕ → List ℕ → List Datum → List Datum
those_of n (m ∷ ms) (t ∷ ts) = if m == n then t ∷ those_of n ms ts else those_of n ms ts
those_of n ms ts = []

-- The session of a worker inserts the objects of its parts, in their order, and then walks through these parts. The
-- answers of each part are in these lists.
pub record Scans (o : ScanOptions) (program : Program) (plan : Option (List Datum)) (objects : List Datum) (lists : List (List Datum)) (worker : ℕ) (h : Home) (v u : Views) : Type 0 where
  pub full : Views
  pub puts : Puts h (filter (is_own o worker) objects) v full
  pub works : Works h (scan_walk h program plan) (is_share o.workers worker) (answers_of lists) full h.options.parts u

-- Members of a scan: one for each worker. Each can make turns and is at a table with these options, and the tables have
-- the same gates.
pub record AreMembers {T : Type 0} (is_ready : T → Type 0) (home : T → Home) (o : ScanOptions) (members : List T) : Type 0 where
  pub count : length members ≡ o.workers
  pub ready : All is_ready members
  pub table : AreOfOneTable (map home members)
  pub options : All (λ m. (home m).options ≡ table_of o) members

-- each member inserted the objects of its parts
abbrev pub EachPuts : {T : Type 0} → (T → Type 0) → (T → Home) → (T → Views → Type 0) → ScanOptions → List Datum → List T → List T → Type 0
EachPuts is_ready home sees o objects olds news =
    Each (λ n. Did is_ready home sees (λ h. Puts h (filter (is_own o n) objects))) 0 olds news

-- each member inserted the objects that have its number alongside; the first member has this number
abbrev pub EachPutsThose : {T : Type 0} → (T → Type 0) → (T → Home) → (T → Views → Type 0) → List Datum → List ℕ → ℕ → List T → List T → Type 0
EachPutsThose is_ready home sees objects numbers number olds news =
    Each (λ n. Did is_ready home sees (λ h. Puts h (those_of n numbers objects))) number olds news

-- each member inserted the objects of its parts, and then walked through these parts
abbrev pub EachScans : {T : Type 0} → (T → Type 0) → (T → Home) → (T → Views → Type 0) → ScanOptions → Program → Option (List Datum) → List Datum → List (List Datum) → List T → List T → Type 0
EachScans is_ready home sees o program plan objects lists olds news =
    Each (λ n. Did is_ready home sees (Scans o program plan objects lists n)) 0 olds news
