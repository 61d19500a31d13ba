use Rattle.std.proofs.Common.{[], ◌++◌, rules, ap, ◌∙◌}
use Rattle.machine_bodies.proofs.GoingLemmas.{one_waits, waits_here, left_goes}
use Rattle.machine_bodies.proofs.bodies.Run.leave.Goals as goal

pub unreachable-requires : goal.unreachable-requires
unreachable-requires g c =
    let going = c.requires.going.2 in
    let gone = c.in_default.ensures.rest in
    let gone = rw c.in_default.ensures.cases.0 at gone in
    one_waits going _ (c.in_ok-value.ensures c.requires.going.0 going.stands) (c.in_default.ensures.items ∙ ap (λ acts. acts ++ []) gone)

pub resume-requires : goal.resume-requires
resume-requires g c =
    let going = c.requires.going.2 in
    (search rules, waits_here going _ (c.in_ok-value.ensures c.requires.going.0 going.stands) c.in-Some.waits c.pop.new.self.items c.in-Some.ensures.items)

pub returns-clause-going : goal.returns-clause-going
returns-clause-going g c object n going =
    left_goes going _ (c.in_ok-value.ensures object going.stands) c.in-Some.waits c.pop.new.self.items c.in-Some.ensures.items c.resume.ensures.body c.resume.ensures.on
