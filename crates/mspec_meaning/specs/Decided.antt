-- What the value of an argument of andalso and orelse says about the value of the whole.
use Rattle.std.specs.Prelude.{Bool, true, false, Option, Some, None, option_map}
use Rattle.term_operand.specs.Operand.{boolean_of, boolean}
use Rattle.term_operand.specs.Value.{value_datum}
use Rattle.term_core.specs.Datum.{Datum}
use Rattle.mspec_syntax.specs.declared.mode.Mode.{Mode}
use Rattle.mspec_match.specs.Failure.{failed}
use Rattle.mspec_meaning.specs.declared.decided.Verdict.{Verdict}
use Rattle.mspec_meaning.specs.declared.decided.Verdict.TheVariants as verdict

-- the value of andalso, given the truth value of an argument and the value of andalso of the arguments after it
abbrev pub and_at : Mode → Option Bool → Option Datum → Option Datum
and_at mode None rest = failed mode
and_at mode (Some true) rest = rest
and_at mode (Some false) rest = Some (boolean false)

-- the value of andalso, given the value of an argument and the value of andalso of the arguments after it
abbrev pub and_step : Mode → Option Datum → Option Datum → Option Datum
and_step mode None rest = None
and_step mode (Some d) rest = and_at mode (boolean_of d) rest

-- the value of orelse, given the truth value of an argument and the value of orelse of the arguments after it
abbrev pub or_at : Mode → Option Bool → Option Datum → Option Datum
or_at mode None rest = failed mode
or_at mode (Some true) rest = Some (boolean true)
or_at mode (Some false) rest = rest

-- the value of orelse, given the value of an argument and the value of orelse of the arguments after it
abbrev pub or_step : Mode → Option Datum → Option Datum → Option Datum
or_step mode None rest = None
or_step mode (Some d) rest = or_at mode (boolean_of d) rest

-- andalso (false) or orelse (true), given an argument's value and the value of the arguments after it: the first false
-- or the first true argument decides
abbrev pub decided_at : Bool → Mode → Option Datum → Option Datum → Option Datum
decided_at false mode value rest = and_step mode value rest
decided_at true mode value rest = or_step mode value rest

-- the value of the whole, given an argument's verdict and the value of the arguments after it
abbrev pub comes_to : {A : Type 0} → Verdict A → Option Datum → Option Datum
comes_to verdict.Open rest = rest
comes_to (verdict.Ends value) rest = option_map value_datum value
