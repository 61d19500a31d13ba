-- The value of an expression that fails.
use Rattle.std.specs.Prelude.{Option, Some, None}
use Rattle.term_core.specs.Datum.{Datum}
use Rattle.mspec_syntax.specs.Mode.{exit_term}
use Rattle.mspec_syntax.specs.declared.mode.Mode.{Mode}
use Rattle.mspec_syntax.specs.declared.mode.Mode.TheVariants.{Condition, Body}

-- the value of an expression that fails: None in a condition, 'EXIT' in a body
abbrev pub failed : Mode → Option Datum
failed Condition = None
failed Body = Some exit_term
