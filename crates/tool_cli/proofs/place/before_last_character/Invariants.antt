use Rattle.std.proofs.Common.{◌≡◌, ◌≤◌, ◌<◌, ℕ, false, length}
use Rattle.std.specs.Prelude.{get_or}
use Rattle.tool_cli.specs.Place.{begins_character}
use Rattle.tool_cli.proofs.place.before_last_character.Given as goal

abbrev pub invariant-loop-end : goal.invariant-loop-end
invariant-loop-end l = (k : ℕ) → l.end ≤ k → k < length l.bytes → begins_character (get_or l.bytes k 0) ≡ false
