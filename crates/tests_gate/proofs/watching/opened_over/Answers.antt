use Rattle.tables.proofs.OpenedLemmas.{all_opened}
use Rattle.tests_gate.proofs.watching.opened_over.Goals as goal

pub last_two-requires : goal.last_two-requires
last_two-requires g c =
    all_opened _ c.in-Ok.table.options c.in-Ok.table.gates.items c.in-Ok.sessions.items c.in-Ok.ensures.opened.1 c.in-Ok.ensures.opened.2
