use Rattle.std.proofs.Common.{List, length}
use Rattle.std.specs.Str.{chars}
use denote.Text.{Utf8}
use denote.Shadow.{shadow}
use Rattle.term_core.specs.Datum.{Datum}
use Rattle.term_text.specs.Text.{Front}
use Rattle.tool_query.proofs.run.read_on.Given as goal

abbrev pub invariant-loop-scratch : goal.invariant-loop-scratch
invariant-loop-scratch g l = shadow (Utf8 l.left) × ((done : List Datum) × Front (chars l.fn.rest) done (chars l.left))

abbrev pub decreases-loop-scratch : goal.decreases-loop-scratch
decreases-loop-scratch g l = length (chars l.left)
