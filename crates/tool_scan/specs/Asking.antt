-- The table of a scan, its sessions, and their answers.
use Rattle.std.specs.Prelude.{ℕ, ◌≡◌, ◌<◌, ◌++◌, false, Option, List, [], length, flat_map}
use Rattle.std.specs.List.{AllZip}
use Rattle.term_core.specs.Datum.{Datum}
use Rattle.mcode.specs.Answer.{answer_of}
use Rattle.mcode.specs.Program.{Program}
use Rattle.mspec_syntax.specs.Specification.{Specification}
use Rattle.mspec_meaning.specs.Meaning.{Means}
use Rattle.tables.specs.Turns.{Home, Views}
use Rattle.walk_query.specs.Plan.{IsPlanOf}
use Rattle.tool_scan.specs.Members.{Scans}
use Rattle.tool_scan.specs.Options.{table_of}
use Rattle.tool_scan.specs.declared.options.ScanOptions.{ScanOptions}

-- one more member for each of these sessions follows the old members
abbrev pub AreSeated : {M S : Type 0} → (M → S → Type 0) → List S → List M → List M → Type 0
AreSeated {M} Sits sessions old new = (more : List M) × (new ≡ old ++ more) × AllZip Sits more sessions

-- A worker's session of a new table, which had seen nothing, did its part of a scan.
pub record IsScanned (o : ScanOptions) (program : Program) (plan : Option (List Datum)) (objects : List Datum) (lists : List (List Datum)) (worker : ℕ) : Type 0 where
  pub home : Home
  pub opened : home.options ≡ table_of o
  pub number : home.number ≡ worker
  pub last : Views
  pub scans : Scans o program plan objects lists worker home (λ part. []) last

-- Answers of a scan by a specification: those of each part, in ascending order of the parts, by the session of the
-- part's worker.
pub record AreAnswers (o : ScanOptions) (s : Specification) (objects answers : List Datum) : Type 0 where
  pub program : Program
  pub means : (object : Datum) → Means s object (answer_of program object)
  pub plan : Option (List Datum)
  pub planned : IsPlanOf o.keypos false s plan
  pub lists : List (List Datum)
  pub count : length lists ≡ o.parts
  pub each : (worker : ℕ) → worker < o.workers → IsScanned o program plan objects lists worker
  pub joined : answers ≡ flat_map (λ list. list) lists
