-- What the value of an expression depends on.
use Rattle.term_core.specs.Datum.{Datum}
use Rattle.mspec_match.specs.Match.{Substitution}
use Rattle.mspec_syntax.specs.declared.mode.Mode.{Mode}

-- what the value of an expression depends on: whether it is in a condition or a body, the values of the head's
-- variables, and the object
pub record Environment : Type 0 where
  pub mode : Mode
  pub substitution : Substitution
  pub object : Datum
