-- What a term is as a specification.
use Rattle.std.specs.Prelude.{◌≢◌, Option, List}
use Rattle.term_core.specs.Datum.{Datum}
use Rattle.part_core.specs.Settings.{is_ordered}
use Rattle.tables.specs.declared.options.Options.{Options}
use Rattle.mspec_syntax.specs.Faults.{IsRefusal}
use Rattle.mspec_syntax.specs.Grammar.{IsSpecification}
use Rattle.mspec_syntax.specs.Specification.{Specification, IsWithinLimits}
use Rattle.mspec_syntax.specs.declared.fault.SpecFault.{SpecFault}
use Rattle.mspec_syntax.specs.declared.fault.SpecFault.TheVariants.{Memory}
use Rattle.mspec_meaning.specs.Meaning.{Means}
use Rattle.walk_query.specs.Plan.{IsPlanOf}

-- a specification, by its answer on each object and the keys that a walk by it visits, if it names them; or no
-- specification, for this fault
pub data Verdict : Type 0 where
  Meant : (Datum → Option Datum) → Option (List Datum) → Verdict
  Faulty : SpecFault → Verdict

-- A specification that the term is read as, within its limits; what it means on each object; and the keys that a walk
-- by it visits in a table with these options.
pub record IsMeant (o : Options) (d : Datum) (answer : Datum → Option Datum) (plan : Option (List Datum)) : Type 0 where
  pub specification : Specification
  pub read : IsSpecification d specification
  pub within : IsWithinLimits specification
  pub means : (object : Datum) → Means specification object (answer object)
  pub planned : IsPlanOf o.keypos (is_ordered o.kind) specification plan

-- the verdict on a term, as a specification for a table with these options; out of memory is not a fault of the term
abbrev pub IsVerdict : Options → Datum → Verdict → Type 0
IsVerdict o d (Meant answer plan) = IsMeant o d answer plan
IsVerdict o d (Faulty f) = (f ≢ Memory) × IsRefusal f d
