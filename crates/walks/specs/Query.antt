-- Queries, and the walks that they make; what a walk keeps.
use Rattle.std.specs.Prelude.{ℕ, Option, ◌++◌, List}
use Rattle.term_core.specs.Datum.{Datum}
use Rattle.part_core.specs.Acts.{Purpose}
use Rattle.part_core.specs.Settings.{is_ordered}
use Rattle.tables.specs.declared.options.Options.{Options}
use Rattle.tables.specs.Turns.{Home}
use Rattle.walk_core.specs.Positions.{IsThere, position_of}
use Rattle.walk_core.specs.Walk.{Walk}
use Rattle.walk_core.specs.Walk as walk
use Rattle.walk_query.specs.declared.query.Query.{Query}
use Rattle.walk_query.specs.Plan.{plan_at}
use Rattle.walk_core.specs.declared.position.Position.{Position}
use Rattle.walks.specs.declared.kept.Kept.{Kept}
use Rattle.walks.specs.declared.fault.WalkFault.{WalkFault}
use Rattle.walks.specs.declared.fault.WalkFault.TheVariants as fault

-- the answers that are kept
abbrev pub kept_of : {A : Type 0} → Kept A → List Datum
kept_of kept = kept.earlier.items ++ kept.last.items

-- the keys that a walk with a query visits, in a table with these options, if the query names them
abbrev pub plan_of : {A : Type 0} → Query A → Options → Option (List Datum)
plan_of query options = plan_at query.named options.keypos (is_ordered options.kind)

-- the walk of a session through all parts of its table, or through the keys that are named
abbrev pub walk_of : {A : Type 0} → Home → Purpose → Query A → Walk
walk_of h purpose query = record {
  options = h.options;
  number = h.number;
  purpose = purpose;
  program = query.code;
  plan = plan_of query h.options;
  from = 0;
  to = h.options.parts;
}

-- a walk with a query can be at this position, in a table with these options
abbrev pub IsWithin : {A B : Type 0} → Options → Query A → Position B → Type 0
IsWithin options query at = IsThere options.parts (walk.named_count (plan_of query options)) (position_of at)

-- the error codes of the faults
abbrev pub walk_fault_number : WalkFault → ℕ
walk_fault_number fault.Memory = 1
walk_fault_number fault.StrangerContinuation = 62
walk_fault_number fault.BadLimit = 63
