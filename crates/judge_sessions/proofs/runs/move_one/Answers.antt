use Rattle.tables.proofs.OpenedLemmas.{front_opened, last_opened}
use Rattle.judge_sessions.proofs.runs.move_one.Goals as goal

pub put_member-requires-clause-session : goal.put_member-requires-clause-session
put_member-requires-clause-session g c =
    last_opened c.args.table.now.options c.args.table.now.gates.items c.args.sessions.now.items c.pop.new.self.items c.in_ok-member.member c.in_ok-member.ensures.items c.requires.sessions

pub returns-clause-sessions : goal.returns-clause-sessions
returns-clause-sessions g c =
    front_opened c.args.table.now.options c.args.table.now.gates.items c.args.sessions.now.items c.pop.new.self.items c.in_ok-member.member c.in_ok-member.ensures.items c.requires.sessions
