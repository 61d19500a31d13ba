use Rattle.std.proofs.Common.{◌≡◌, [], false, length}
use Rattle.std.specs.Str.{chars}
use denote.Text.{Utf8}
use denote.Shadow.{shadow}
use Rattle.term_text.specs.TokenReading.{all_steps, after_gap}
use Rattle.term_text.specs.Reading.{sentence_step}
use Rattle.term_text.proofs.read.terms.Given as goal

abbrev pub invariant-loop-terms : goal.invariant-loop-terms
invariant-loop-terms g l =
    shadow (Utf8 l.rest) × (all_steps sentence_step l.terms.items (after_gap false (chars l.rest)) ≡ all_steps sentence_step [] (after_gap false (chars l.fn.text)))

abbrev pub decreases-loop-terms : goal.decreases-loop-terms
decreases-loop-terms g l = length (after_gap false (chars l.rest))
