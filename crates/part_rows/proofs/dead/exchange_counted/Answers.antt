use Rattle.std.proofs.Common.{ap, sym, ◌-◌, ◌∙◌}
use Rattle.part_rows.proofs.DeadLemmas.{keeps_exchanged, keeps_nowhere}
use Rattle.part_rows.proofs.dead.exchange_counted.Goals as goal

pub returns-then-not-exchange : goal.returns-then-not-exchange
returns-then-not-exchange g c = λ w keeps sound.
    let done = c.if-not-exchange.ensures.exchanged w keeps.there sound in
    (done.0, done.1, keeps_nowhere g.R.Rows.shows c.args.settings c.exchange.new.self c.args.dead.now w c.args.key.now c.args.held.now c.args.keeps keeps.count (sym done.0) done.2)

pub returns : goal.returns
returns g c = λ w keeps sound.
    let done = c.if-not-exchange.ensures.exchanged w keeps.there sound in
    (done.0, done.1, keeps_exchanged g.R.Rows.shows c.args.settings c.exchange.new.self c.args.dead.now c.dead_coming-coming.result c.dead_in-going.result c.saturating_sub.result w c.args.key.now c.args.held.now c.exchange.new.held c.args.keeps sound keeps.count (c.if-not-exchange.ensures.few w keeps.there) (sym done.0) done.1 c.dead_coming-coming.ensures c.dead_in-going.ensures (c.saturating_sub.ensures ∙ ap (λ n. n - c.dead_in-going.result) c.saturating_add.ensures) done.2)
