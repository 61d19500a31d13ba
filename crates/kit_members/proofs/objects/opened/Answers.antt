use Rattle.tables.proofs.OpenedLemmas.{all_opened, front_opened, last_opened}
use Rattle.kit_members.proofs.TableLemmas.{each_opened}
use Rattle.kit_members.proofs.objects.opened.Goals as goal

pub filled-requires : goal.filled-requires
filled-requires g c =
    let o = c.in-Ok.table.options in
    let gates = c.in-Ok.table.gates.items in
    last_opened o gates c.in-Ok.sessions.items c.pop.new.self.items c.in-Some.last c.in-Some.ensures.items
    (all_opened _ o gates c.in-Ok.sessions.items c.in-Ok.ensures.opened.1 c.in-Ok.ensures.opened.2)

pub returns-in-Some-filled : goal.returns-in-Some-filled
returns-in-Some-filled g c =
    let o = c.in-Ok.table.options in
    let gates = c.in-Ok.table.gates.items in (
      each_opened o gates c.pop.new.self.items
          (front_opened o gates c.in-Ok.sessions.items c.pop.new.self.items c.in-Some.last c.in-Some.ensures.items
          (all_opened _ o gates c.in-Ok.sessions.items c.in-Ok.ensures.opened.1 c.in-Ok.ensures.opened.2)),
      c.in-Some-filled.ensures,
    )
