use Rattle.tables.proofs.OpenedLemmas.{all_opened}
use Rattle.bench.proofs.rounds.round.Goals as goal

pub sessions_timed-requires-after_bounds : goal.sessions_timed-requires-after_bounds
sessions_timed-requires-after_bounds g c κs within =
    all_opened c.args.options c.in-Ok.table.options c.in-Ok.table.gates.items c.in-Ok.sessions.items c.in-Ok.ensures.opened.1 c.in-Ok.ensures.opened.2
