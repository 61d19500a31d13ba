use Rattle.std.proofs.Common.{None, [], ◌++◌, rules, ap, ◌∙◌}
use Rattle.machine_bodies.proofs.GoingLemmas.{one_waits, waits_here, left_goes}
use Rattle.machine_bodies.proofs.StandLemmas.{fails_here}
use Rattle.machine_bodies.proofs.bodies.Run.fail.Goals as goal

pub unreachable-requires : goal.unreachable-requires
unreachable-requires g c =
    let going = c.requires.going.2 in
    let gone = c.in_default.ensures.rest in
    let gone = rw c.in_default.ensures.cases.0 at gone in
    one_waits going None (fails_here going.stands c.requires.going.0 c.requires.read) (c.in_default.ensures.items ∙ ap (λ acts. acts ++ []) gone)

pub resume_without-requires : goal.resume_without-requires
resume_without-requires g c =
    let going = c.requires.going.2 in
    let waits = waits_here going None (fails_here going.stands c.requires.going.0 c.requires.read) c.in-Some.waits c.pop.new.self.items c.in-Some.ensures.items in
    (search rules, (waits.0, waits.1, waits.2))

pub returns-clause-going : goal.returns-clause-going
returns-clause-going g c object n going =
    left_goes going None (fails_here going.stands object c.requires.read) c.in-Some.waits c.pop.new.self.items c.in-Some.ensures.items c.resume_without.ensures.body (λ t s waits good. c.resume_without.ensures.on t s waits)
