use Rattle.std.specs.Prelude.{All}
use Rattle.tables.specs.Opened.{AllOpened}
use Rattle.tables.specs.Sessions.{IsOpened}
use Rattle.judge_sessions.proofs.runs.move_members.Given as goal

abbrev pub invariant-loop-member : goal.invariant-loop-member
invariant-loop-member g l =
    AllOpened l.table.options l.table.gates.items l.sessions.items
    × All (λ s. IsOpened l.table.options l.table.gates.items s.number s.passes.items) l.members.items
