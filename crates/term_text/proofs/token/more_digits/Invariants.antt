use Rattle.std.proofs.Common.{◌≡◌, ◌-◌, ◌^◌, ℕ, length, min}
use Rattle.std.specs.Str.{chars}
use denote.Text.{Utf8}
use denote.Shadow.{shadow}
use Rattle.term_text.specs.TokenReading.{number_run}
use Rattle.term_text.proofs.token.more_digits.Given as goal

abbrev pub invariant-loop-character : goal.invariant-loop-character
invariant-loop-character l =
    shadow (Utf8 l.rest) × ((n : ℕ) × (l.value ≡ min n (2 ^ 64 - 1)) × (number_run n (chars l.rest) ≡ number_run l.before (chars l.text)))

abbrev pub decreases-loop-character : goal.decreases-loop-character
decreases-loop-character l = length (chars l.rest)
