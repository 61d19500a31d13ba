use Rattle.std.proofs.Common.{◌≡◌, take}
use Rattle.tables.specs.Turns.{Follows}
use Rattle.tool_scan.specs.Members.{Puts, those_of}
use Rattle.tool_scan.proofs.members.put_own.Given as goal

abbrev pub invariant-loop-place : goal.invariant-loop-place
invariant-loop-place g l =
    g.T.TryTurns.is_ready l.turns × (g.T.TryTurns.home l.turns ≡ g.T.TryTurns.home l.initial.turns)
    × Follows (g.T.TryTurns.sees l.initial.turns) (g.T.TryTurns.sees l.turns) (Puts (g.T.TryTurns.home l.initial.turns) (those_of l.number (take l.place l.shares.numbers.now) (take l.place l.shares.objects.now)))
