use Rattle.std.proofs.Common.{rules}
use Rattle.machine_bodies.proofs.GoingLemmas.{entered_goes}
use Rattle.machine_bodies.proofs.bodies.Run.enter.Goals as goal

pub invoke-requires : goal.invoke-requires
invoke-requires g c =
    let going = c.requires.going.2 in
    (search rules, (going.stands, (c.requires.read, (c.requires.few, (going.main, (going.body, going.seen))))))

pub returns-clause-going : goal.returns-clause-going
returns-clause-going g c object n going =
    let invoked = c.in_ok-entered.ensures.invoked object going.stands in
    rw (c.in_ok-push.ensures.items, c.replace-waits.ensures.value, c.replace-waits.ensures.after)
    (entered_goes going c.args.routine c.invoke.ensures.body c.in_ok-entered.ensures.entered invoked)
