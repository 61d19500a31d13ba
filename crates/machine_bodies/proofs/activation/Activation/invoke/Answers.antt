use Rattle.std.proofs.Common.{rules, refl, arith}
use Rattle.machine_bodies.proofs.StandLemmas.{routine_some, routine_counted, arguments_there, arguments_room, invoked_here}
use Rattle.machine_bodies.proofs.activation.Activation.invoke.Goals as goal

pub overflow_cast-count : goal.overflow_cast-count
overflow_cast-count g c =
    let stands = c.requires.stands in
    let there = arguments_there c.args.code.now c.requires.main c.requires.body c.args.routine c.requires.read.0 c.requires.read.1 stands in
    omega (arith, there, stands.within, stands.typed.few, c.argument_count-count.ensures)

pub routine-requires-clause-some : goal.routine-requires-clause-some
routine-requires-clause-some g c = routine_some c.args.code.now c.requires.main c.requires.body c.args.routine c.requires.read.0 c.requires.read.1 c.requires.stands

pub routine-requires-clause-there : goal.routine-requires-clause-there
routine-requires-clause-there g c = routine_counted c.args.code.now c.requires.main c.requires.body c.args.routine c.requires.read.0 c.requires.read.1 c.requires.stands

pub hand_over-requires : goal.hand_over-requires
hand_over-requires g c =
    let stands = c.requires.stands in
    let settled = c.in_ok-settle.ensures.settled in
    let made = c.in_ok-entered.ensures in
    let made = rw c.routine.ensures at made in
    let there = arguments_there c.args.code.now c.requires.main c.requires.body c.args.routine c.requires.read.0 c.requires.read.1 stands in
    let room = arguments_room c.args.code.now c.requires.main c.requires.body c.args.routine c.requires.read.0 c.requires.read.1 stands made in
    let counts = c.argument_count-count.ensures in
    (search rules, (omega (arith, there, settled.height, counts), (omega (arith, stands.within, settled.height, settled.places), omega (arith, room, counts))))

pub overflow_sub-self : goal.overflow_sub-self
overflow_sub-self g c =
    let settled = c.in_ok-settle.ensures.settled in
    let there = arguments_there c.args.code.now c.requires.main c.requires.body c.args.routine c.requires.read.0 c.requires.read.1 c.requires.stands in
    omega (arith, there, settled.height, c.argument_count-count.ensures)

pub returns-clause-invoked : goal.returns-clause-invoked
returns-clause-invoked g c object stands =
    let settled = c.in_ok-settle.ensures.settled in
    let made = c.in_ok-entered.ensures in
    let made = rw c.routine.ensures at made in
    invoked_here c.args.code.now c.requires.main c.requires.body c.args.routine c.requires.read.0 c.requires.read.1 stands made c.argument_count-count.result c.argument_count-count.ensures c.requires.few settled c.settle.ensures.body refl settled.cells refl refl c.hand_over.ensures.places c.hand_over.ensures.left refl c.hand_over.ensures.room refl made.pc made.cells refl c.hand_over.ensures.handed object
