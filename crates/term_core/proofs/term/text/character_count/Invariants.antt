-- the characters so far are scalar values
use Rattle.std.proofs.Common.{◌≡◌, drop}
use Rattle.term_core.specs.Limits.{AreScalars}
use Rattle.term_core.proofs.term.text.character_count.Given as goal

abbrev pub invariant-loop-character : goal.invariant-loop-character
invariant-loop-character l = (l.count ≡ l.character-index) × (AreScalars (drop l.character-index l.characters) → AreScalars l.characters)
