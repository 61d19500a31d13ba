-- Laws of reading.
use Rattle.std.specs.Prelude.{◌≡◌, ◌≢◌}
use Rattle.term_core.specs.Datum.{Datum}
use Rattle.mspec_syntax.specs.Faults.{IsRefusal}
use Rattle.mspec_syntax.specs.Grammar.{IsSpecification}
use Rattle.mspec_syntax.specs.Specification.{Specification, IsWithinLimits}
use Rattle.mspec_syntax.specs.declared.fault.SpecFault.{SpecFault}
use Rattle.mspec_syntax.specs.declared.fault.SpecFault.TheVariants.{Memory}

-- a term is read as at most one specification
abbrev pub HasOneReading : Type 0
HasOneReading =
    (d : Datum) (s t : Specification) → IsSpecification d s → IsSpecification d t → s ≡ t

-- if a term is read as a specification within the limits, reading it fails only if memory runs out
abbrev pub ReadIsNotRefused : Type 0
ReadIsNotRefused =
    (d : Datum) (s : Specification) (f : SpecFault) → IsSpecification d s → IsWithinLimits s
    → IsRefusal f d → f ≡ Memory

-- a term has at most one fault for which it is rejected, other than out of memory
abbrev pub HasOneRefusal : Type 0
HasOneRefusal =
    (d : Datum) (f g : SpecFault) → IsRefusal f d → IsRefusal g d → f ≢ Memory → g ≢ Memory
    → f ≡ g
