use Rattle.tables.proofs.OpenedLemmas.{front_opened, last_opened}
use Rattle.tests_gate.proofs.pairs.last_two.Goals as goal

pub returns : goal.returns
returns g c =
    let o = c.args._table.now.options in
    let gates = c.args._table.now.gates.items in
    let rest = front_opened o gates c.args.sessions.items c.pop.new.self.items c.in-Some.second c.in-Some.ensures.items c.requires in (
      last_opened o gates c.pop.new.self.items c.pop-2.new.self.items c.in-Some-pop.first c.in-Some-pop.ensures.items rest,
      last_opened o gates c.args.sessions.items c.pop.new.self.items c.in-Some.second c.in-Some.ensures.items c.requires,
    )
