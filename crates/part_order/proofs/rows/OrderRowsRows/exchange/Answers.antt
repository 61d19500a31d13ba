use Rattle.std.proofs.Common.{ap, arith, length, sym, ◌-◌, ◌∙◌}
use Rattle.std.specs.Prelude.{◌^◌}
use Rattle.part_engine.proofs.SetLemmas.{written, exchanged_there, exchanged_out}
use Rattle.part_order.proofs.ShownLemmas.{apart_shown, exchange_shows, few_shows}
use Rattle.part_order.proofs.rows.OrderRowsRows.exchange.Goals as goal

pub returns-then-goes-clause-exchanged : goal.returns-then-goes-clause-exchanged
returns-then-goes-clause-exchanged g c = λ w shows sound.
    exchange_shows c.args._settings c.args.self.now c.take_row.new.self w c.args.key.now c.args.held.now c.take_row.new.held c.args.keeps c.take_row.result shows c.take_row.ensures.there c.take_row.ensures.held (c.take_row.ensures.rows ∙ exchanged_out c.args.key.now c.args.held.now c.args.keeps c.args.self.now (sym c.if-goes.ensures) (apart_shown c.args._settings c.args.self.now w shows sound))

pub returns-clause-exchanged : goal.returns-clause-exchanged
returns-clause-exchanged g c = λ w shows sound.
    exchange_shows c.args._settings c.args.self.now c.swap.new.self w c.args.key.now c.args.held.now c.swap.new.held c.args.keeps c.swap.result shows c.swap.ensures.there c.swap.ensures.held (c.swap.ensures.rows ∙ written c.args.key.now c.args.held.now c.args.self.now (apart_shown c.args._settings c.args.self.now w shows sound) ∙ exchanged_there c.args.key.now c.args.held.now c.args.keeps c.args.self.now (sym c.if-goes.ensures))

pub returns-then-goes-clause-few : goal.returns-then-goes-clause-few
returns-then-goes-clause-few g c = λ w shows.
    few_shows c.args._settings c.args.self.now w (2 ^ 64 - 1) shows (omega (arith, ap length c.self.view_is))

pub returns-clause-few : goal.returns-clause-few
returns-clause-few g c = λ w shows.
    few_shows c.args._settings c.args.self.now w (2 ^ 64 - 1) shows (omega (arith, ap length c.self.view_is))
