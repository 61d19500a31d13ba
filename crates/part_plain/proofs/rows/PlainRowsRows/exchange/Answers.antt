use Rattle.std.proofs.Common.{List, ◌-◌, subst, arith}
use Rattle.std.specs.Prelude.{◌^◌}
use Rattle.std.specs.List.{IsDistinct}
use Rattle.std.specs.Map.{keys_of}
use Rattle.term_operand.specs.Order.{is_same}
use Rattle.part_core.specs.Rows.{Row}
use Rattle.part_plain.proofs.ShownLemmas.{shown_exchange, shown_few}
use Rattle.part_plain.proofs.rows.PlainRowsRows.exchange.Goals as goal

pub returns-clause-exchanged : goal.returns-clause-exchanged
returns-clause-exchanged g c = λ w shown sound.
    let apart = subst (λ (rs : List Row). IsDistinct is_same (keys_of rs)) shown.rows sound.rows.distinct in
    shown_exchange c.args._settings c.args.key.now c.args.held.now c.exchange.new.held c.args.keeps c.exchange.result c.args.self.now.rows.items c.exchange.new.rows.items c.args.self.now.slots w shown c.exchange.ensures.found c.exchange.ensures.held (c.exchange.ensures.rows apart)

pub returns-clause-few : goal.returns-clause-few
returns-clause-few g c = λ w shown.
    shown_few c.args._settings c.args.self.now.rows.items c.args.self.now.slots (2 ^ 64 - 1) w shown (omega arith)
