use Rattle.std.proofs.Common.{◌≡◌, ◌≤◌, ◌<◌, ℕ, false, length}
use Rattle.std.specs.Prelude.{get_or}
use Rattle.tool_cli.specs.Place.{is_feed}
use Rattle.tool_cli.proofs.place.last_line.Given as goal

abbrev pub invariant-loop-start : goal.invariant-loop-start
invariant-loop-start l = (k : ℕ) → l.start ≤ k → k < length l.text → is_feed (get_or l.text k 0) ≡ false
