use Rattle.std.proofs.Common.{◌≡◌, length}
use Rattle.std.specs.Str.{chars}
use denote.Text.{Utf8}
use denote.Shadow.{shadow}
use Rattle.term_text.specs.TokenReading.{number_run}
use Rattle.term_text.proofs.token.number.Given as goal

abbrev pub invariant-loop-value : goal.invariant-loop-value
invariant-loop-value l = shadow (Utf8 l.rest) × (number_run l.value (chars l.rest) ≡ number_run 0 (chars l.text))

abbrev pub decreases-loop-value : goal.decreases-loop-value
decreases-loop-value l = length (chars l.rest)
