use Rattle.std.proofs.Common.{◌≡◌, ◌<◌, ℕ, false}
use Rattle.std.specs.Prelude.{get_or}
use Rattle.tool_cli.specs.Place.{is_feed}
use Rattle.tool_cli.proofs.place.first_line.Given as goal

abbrev pub invariant-loop-end : goal.invariant-loop-end
invariant-loop-end l = (k : ℕ) → k < l.end → is_feed (get_or l.text k 0) ≡ false
