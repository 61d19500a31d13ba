-- Where an expression is, and the value of an expression that fails.
use Rattle.std.specs.Prelude.{codes}
use Rattle.term_core.specs.Datum.{Datum}
use Rattle.term_core.specs.Datum.Datum.{atom}

-- the value in a body of an expression that fails, 'EXIT'
abbrev pub exit_term : Datum
exit_term = atom (codes "EXIT")

-- where an expression is: by itself, or as the tail of a list that is made
pub data Position : Type 0 where
  by_itself : Position
  as_tail : Position
