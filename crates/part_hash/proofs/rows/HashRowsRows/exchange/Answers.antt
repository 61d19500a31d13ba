use Rattle.std.proofs.Common.{refl}
use Rattle.part_rows.specs.Shown.{shown_exchanged}
use Rattle.part_hash.proofs.ShownLemmas.{few_rows, shown_still}
use Rattle.part_hash.proofs.rows.HashRowsRows.exchange.Goals as goal

pub returns-clause-exchanged : goal.returns-clause-exchanged
returns-clause-exchanged g c = λ w shown sound.
    let done = c.exchange.ensures.done w.rows shown.rows in
    (done.0, done.1, shown_still (shown_exchanged c.args.key.now c.args.held.now c.args.keeps w) w shown done.2 refl c.exchange.ensures.slots)

pub returns-clause-few : goal.returns-clause-few
returns-clause-few g c = λ w shown. few_rows c.args.settings c.args.self.now.store w.rows shown.rows
