-- what comes after this element spells a term
use Rattle.std.proofs.Common.{◌≡◌, true, drop}
use Rattle.mspec_syntax.specs.Pattern.{cells_of}
use Rattle.mspec_syntax.specs.PatternView.{tail_pattern}
use Rattle.compiler_patterns.specs.Spelled.{spells}
use Rattle.compiler_patterns.proofs.own.open_elements.Given as goal

abbrev pub invariant-loop-place : goal.invariant-loop-place
invariant-loop-place g l =
    spells (cells_of (drop l.place l.elements) (tail_pattern l.tail)) ≡ true
