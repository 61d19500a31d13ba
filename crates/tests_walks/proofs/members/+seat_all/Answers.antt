use Rattle.std.proofs.Common.{arith}
use Rattle.std.proofs.lemmas.List.Elements.{All-rest}
use Rattle.tables.specs.Sessions.{IsOpened}
use Rattle.tests_walks.proofs.members.+seat_all.Goals as goal

pub seat_all-requires : goal.seat_all-requires
seat_all-requires g t c κs within = (
  omega (arith, c.in-Some.ensures.cases.1, c.decreases),
  (
    within.0,
    (
      within.1,
      (
        All-rest (λ s. IsOpened c.args.table.now.options c.args.table.now.gates.items s.number s.passes.items) c.in-Some.first.now c.in-Some.rest.now c.args.sessions.now c.in-Some.ensures.cases.0 c.requires.opened,
        c.seat_one.ensures,
      ),
    ),
  ),
)
