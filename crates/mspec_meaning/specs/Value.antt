-- The values of andalso and orelse in one definition.
use Rattle.std.specs.Prelude.{Bool, true, false, Option}
use Rattle.term_core.specs.Datum.{Datum}
use Rattle.mspec_syntax.specs.Expression.{Expressions}
use Rattle.mspec_match.specs.Match.{Substitution}
use Rattle.mspec_meaning.specs.Meaning.{all_true, any_true}
use Rattle.mspec_syntax.specs.declared.mode.Mode.{Mode}

-- the value of andalso (false), decided by the first false argument, or of orelse (true), decided by the first true one
abbrev pub decided : Bool → Mode → Expressions → Substitution → Datum → Option Datum
decided false mode es s o = all_true mode es s o
decided true mode es s o = any_true mode es s o
