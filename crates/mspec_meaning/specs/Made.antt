-- Terms made of the values of expressions, and the value if making one fails.
use Rattle.std.specs.Prelude.{Option, Some, None, List}
use Rattle.term_core.specs.Datum.{Datum, cells}
use Rattle.term_core.specs.Limits.{within_limits}
use Rattle.mspec_match.specs.Failure.{failed}
use Rattle.mspec_syntax.specs.declared.mode.Mode.{Mode}

-- a value, or if there is none, the value of what fails
abbrev pub or_failed : Mode → Option Datum → Option Datum
or_failed mode None = failed mode
or_failed mode (Some d) = Some d

-- the value of a term that is made, which fails if it exceeds a limit
abbrev pub made : Mode → Datum → Option Datum
made mode d = or_failed mode (within_limits d)

-- the value of a term made of values, None if one of them is missing, as it may be in a condition
abbrev pub made_of : Mode → Option Datum → Option Datum
made_of mode None = None
made_of mode (Some d) = made mode d

-- the list of elements followed by a tail, None if one of them is missing
abbrev pub joined_to : Option (List Datum) → Option Datum → Option Datum
joined_to (Some ds) (Some d) = Some (cells ds d)
joined_to ds d = None
