use Rattle.part_rows.proofs.DeadLemmas.{keeps_live, keeps_none}
use Rattle.part_rows.proofs.settling.keep_live.Goals as goal

pub returns-then-dead-eq0 : goal.returns-then-dead-eq0
returns-then-dead-eq0 g c = λ o w keeps.
    keeps_none g.R.Rows.shows o c.args.rows.now c.args.dead.now w c.if-dead-eq0.true keeps

pub returns : goal.returns
returns g c = λ o w keeps.
    keeps_live g.R.Rows.shows o c.keep_live.new.self w (c.keep_live.ensures o w keeps.there)
