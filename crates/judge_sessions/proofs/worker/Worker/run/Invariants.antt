use Rattle.std.proofs.Common.{◌≡◌}
use Rattle.kit_members.specs.Members.{AreMembers}
use Rattle.judge_sessions.proofs.worker.Worker.run.Given as goal

abbrev pub invariant-loop-call : goal.invariant-loop-call
invariant-loop-call g l =
    g.T.TryTurns.is_ready l.turns × (g.T.TryTurns.home l.turns ≡ g.T.TryTurns.home l.initial.turns)
    × AreMembers g.M.TryTurns.is_ready g.M.TryTurns.home l.members
