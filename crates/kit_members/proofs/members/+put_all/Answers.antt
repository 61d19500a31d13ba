use Rattle.std.proofs.Common.{◌∷◌, arith, sym}
use Rattle.std.proofs.lemmas.List.Elements.{All-head, All-rest, All-same}
use Rattle.tables.specs.Sessions.{IsOpened}
use Rattle.kit_members.proofs.members.+put_all.Goals as goal

pub put_one-requires-clause-opened : goal.put_one-requires-clause-opened
put_one-requires-clause-opened g t c =
    let first = c.in-Some.first.now in
    let rest = c.in-Some.rest.now in
    All-head (λ s. IsOpened c.args.table.now.options c.args.table.now.gates.items s.number s.passes.items) first rest
    (All-same (λ s. IsOpened c.args.table.now.options c.args.table.now.gates.items s.number s.passes.items) (first ∷ rest) c.args.sessions.now (sym c.in-Some.ensures.cases.0) c.requires.opened)

pub put_all-requires : goal.put_all-requires
put_all-requires g t c κs within = (
  omega (arith, c.in-Some.ensures.cases.1, c.decreases),
  (
    within.0,
    (
      within.1.0,
      (
        within.1.1,
        (
          All-rest (λ s. IsOpened c.args.table.now.options c.args.table.now.gates.items s.number s.passes.items) c.in-Some.first.now c.in-Some.rest.now c.args.sessions.now c.in-Some.ensures.cases.0 c.requires.opened,
          c.put_one.ensures.each,
        ),
      ),
    ),
  ),
)
