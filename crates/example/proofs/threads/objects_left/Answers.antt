use Rattle.ets.proofs.OpenedLemmas.{all_opened, front_opened, last_opened}
use Rattle.example.proofs.threads.objects_left.Goals as goal

pub work_all-requires-after_bounds : goal.work_all-requires-after_bounds
work_all-requires-after_bounds g c κs within =
    let made = c.in-Ok.ensures.opened in
    front_opened c.in-Ok.table.options c.in-Ok.table.gates.items c.in-Ok.sessions.items c.pop.new.self.items c.in-Some.last c.in-Some.ensures.items
    (all_opened _ c.in-Ok.table.options c.in-Ok.table.gates.items c.in-Ok.sessions.items made.1 made.2)

pub close-closed-requires : goal.close-closed-requires
close-closed-requires g c =
    let made = c.in-Ok.ensures.opened in
    last_opened c.in-Ok.table.options c.in-Ok.table.gates.items c.in-Ok.sessions.items c.pop.new.self.items c.in-Some.last c.in-Some.ensures.items
    (all_opened _ c.in-Ok.table.options c.in-Ok.table.gates.items c.in-Ok.sessions.items made.1 made.2)
