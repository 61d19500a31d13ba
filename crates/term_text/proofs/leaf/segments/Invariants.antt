use Rattle.std.proofs.Common.{◌≡◌, [], length}
use Rattle.std.specs.Str.{chars}
use denote.Text.{Utf8}
use denote.Shadow.{shadow}
use Rattle.term_text.specs.TokenReading.{all_steps}
use Rattle.term_text.specs.Reading.{separated, segment_at, segments_at}
use Rattle.term_text.proofs.leaf.segments.Given as goal

abbrev pub invariant-loop-more : goal.invariant-loop-more
invariant-loop-more g l =
    shadow (Utf8 l.rest) × (all_steps (separated segment_at) l.bytes.items (chars l.rest) ≡ segments_at [] (chars l.text))

abbrev pub decreases-loop-more : goal.decreases-loop-more
decreases-loop-more g l = length (chars l.rest)
