use Rattle.tables.proofs.OpenedLemmas.{all_opened, front_opened, last_opened}
use Rattle.judge_sessions.proofs.runs.judged.Goals as goal

pub members_from-requires : goal.members_from-requires
members_from-requires g c =
    let made = c.in-Ok.ensures.opened in
    all_opened c.args.run.options c.in-Ok.table.options c.in-Ok.table.gates.items c.in-Ok.sessions.items made.1 made.2

pub all_played-others-requires-clause-others : goal.all_played-others-requires-clause-others
all_played-others-requires-clause-others g c κs within =
    front_opened c.in-Ok.table.options c.in-Ok.table.gates.items c.members_from.new.sessions.items c.pop.new.self.items c.in-Some-pop.last c.in-Some-pop.ensures.items c.in-Some.ensures.sessions

pub all_played-others-requires-clause-last : goal.all_played-others-requires-clause-last
all_played-others-requires-clause-last g c κs within =
    last_opened c.in-Ok.table.options c.in-Ok.table.gates.items c.members_from.new.sessions.items c.pop.new.self.items c.in-Some-pop.last c.in-Some-pop.ensures.items c.in-Some.ensures.sessions
