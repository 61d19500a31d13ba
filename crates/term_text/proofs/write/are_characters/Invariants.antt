use Rattle.std.proofs.Common.{◌≡◌, drop}
use Rattle.term_core.specs.Datum.{cells}
use Rattle.term_core.specs.Datum.Datum.{nil}
use Rattle.term_text.specs.Canonical.{is_string}
use Rattle.term_text.proofs.write.are_characters.Given as goal

abbrev pub invariant-loop-element : goal.invariant-loop-element
invariant-loop-element g l = is_string (cells (drop l.element-index l.elements) nil) ≡ is_string (cells l.elements nil)
