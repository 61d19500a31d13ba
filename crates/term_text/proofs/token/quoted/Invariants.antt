use Rattle.std.proofs.Common.{◌≡◌, length}
use Rattle.std.specs.Str.{chars}
use denote.Text.{Utf8}
use denote.Shadow.{shadow}
use Rattle.term_text.specs.TokenReading.{all_steps, quoted_step, quoted_at}
use Rattle.term_text.proofs.token.quoted.Given as goal

abbrev pub invariant-loop-characters : goal.invariant-loop-characters
invariant-loop-characters g l =
    shadow (Utf8 l.rest) × (all_steps (quoted_step l.marks) l.characters.items (chars l.rest) ≡ quoted_at l.marks (chars l.text))

abbrev pub decreases-loop-characters : goal.decreases-loop-characters
decreases-loop-characters g l = length (chars l.rest)
