use Rattle.std.proofs.Common.{ℕ, ◌<◌, ◌≤◌, IsTrue}
use Rattle.part_core.specs.Legal.{fix_count}
use Rattle.tables.specs.Turns.{Views}
use Rattle.tables.specs.Calls.{is_granted}
use Rattle.tables.specs.Fixing.{act_of_change}
use Rattle.host_session.proofs.fixing.is_granted_from.Given as goal

abbrev pub invariant-loop-part : goal.invariant-loop-part
invariant-loop-part g l =
    (v : Views) → g.T.TryTurns.sees l.turns v → (k : ℕ) → l.from ≤ k → k < l.part
    → IsTrue (is_granted (act_of_change l.change) (fix_count (g.T.TryTurns.home l.turns).number (v k)))
