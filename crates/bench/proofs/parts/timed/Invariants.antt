use Rattle.std.proofs.Common.{◌≡◌}
use Rattle.kit_members.specs.Members.{AreMembers}
use Rattle.bench.proofs.parts.timed.Given as goal

abbrev pub invariant-loop-round : goal.invariant-loop-round
invariant-loop-round g l =
    g.T.TryTurns.is_ready l.turns × (g.T.TryTurns.home l.turns ≡ g.T.TryTurns.home l.initial.turns)
    × AreMembers g.M.TryTurns.is_ready g.M.TryTurns.home l.members
