use Rattle.std.proofs.Common.{◌≡◌, arith}
use Rattle.std.proofs.lemmas.List.Elements.{All-rest}
use Rattle.tests_walks.proofs.members.+put_locals.Goals as goal

pub put_locals-requires : goal.put_locals-requires
put_locals-requires g t c κs within = (
  omega (arith, c.in-Some.ensures.cases.1, c.decreases),
  (
    within.0,
    (
      within.1,
      (
        c.requires.sessions,
        (
          All-rest (λ t. t.options ≡ c.args.options) c.in-Some.first.now c.in-Some.rest.now c.args.tables.now c.in-Some.ensures.cases.0 c.requires.opened,
          c.put_local.ensures,
        ),
      ),
    ),
  ),
)
