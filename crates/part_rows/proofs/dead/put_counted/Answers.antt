use Rattle.std.specs.Prelude.{unwrap_or}
use Rattle.term_core.specs.Datum.Datum.{nil}
use Rattle.part_rows.proofs.DeadLemmas.{keeps_put}
use Rattle.part_rows.proofs.dead.put_counted.Goals as goal

pub returns-clause-put : goal.returns-clause-put
returns-clause-put g c = λ w keeps sound.
    let put = c.in_ok-put.ensures.put w keeps.there sound in
    keeps_put g.R.Rows.shows c.args.settings c.put.new.self (unwrap_or c.args.object.now nil) c.args.replaces c.is_done.result c.args.dead.now c.revived.result c.saturating_sub.result w c.in_ok-put.put sound keeps.count put.0 c.is_done.ensures c.revived.ensures c.saturating_sub.ensures put.1
