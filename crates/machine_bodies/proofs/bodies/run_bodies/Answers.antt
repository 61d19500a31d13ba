use Rattle.std.proofs.Common.{rules}
use Rattle.machine_bodies.proofs.bodies.run_bodies.Goals as goal

pub turn-requires : goal.turn-requires
turn-requires g c =
    let inv = c.loop-run.invariant in
    (search rules, (c.loop-run.executed, rw inv.code inv.going))

pub returns-in-Over : goal.returns-in-Over
returns-in-Over g c =
    let inv = c.loop-run.invariant in
    let turn = c.in_ok-turn.ensures.turn c.loop-run.executed (rw inv.code inv.going) in
    let turn = rw c.in-Over.is at turn in
    let turn = rw inv.code at turn in
    turn
