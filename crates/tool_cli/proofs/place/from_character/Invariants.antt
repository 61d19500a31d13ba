use Rattle.std.proofs.Common.{◌≡◌, length}
use Rattle.tool_cli.specs.Place.{from_character}
use Rattle.tool_cli.proofs.place.from_character.Given as goal

abbrev pub invariant-loop-first : goal.invariant-loop-first
invariant-loop-first l = from_character l.rest ≡ from_character l.bytes

abbrev pub decreases-loop-first : goal.decreases-loop-first
decreases-loop-first l = length l.rest
