use Rattle.std.proofs.Common.{rules, refl, arith}
use Rattle.machine_stack.specs.Stack.{stack_at}
use Rattle.machine_step.proofs.TableLemmas.{found, looks_left, leads_here, map_room}
use Rattle.machine_step.proofs.stack.computing.Goals as goal

pub arithmetic-requires : goal.arithmetic-requires
arithmetic-requires g c =
    let finds = c.requires.finds in
    let there = found finds.object (stack_at c.args.stack.now.terms c.args.height) c.in-Arith.is finds.room finds.ready in
    (search rules, (omega (arith, there.0.operands), (there.0.within, (finds.code, finds.object, finds.held, there.1))))

pub call-requires : goal.call-requires
call-requires g c =
    let finds = c.requires.finds in
    let there = found finds.object (stack_at c.args.stack.now.terms c.args.height) c.in-Call.is finds.room finds.ready in
    (search rules, (omega (arith, there.0.operands), (there.0.within, omega (arith, there.0.after))))

pub make_tuple-requires : goal.make_tuple-requires
make_tuple-requires g c =
    let finds = c.requires.finds in
    let there = found finds.object (stack_at c.args.stack.now.terms c.args.height) c.in-MakeTuple.is finds.room finds.ready in
    (search rules, (omega (arith, there.0.operands), (there.0.within, omega (arith, there.0.after))))

pub make_map-requires : goal.make_map-requires
make_map-requires g c =
    let finds = c.requires.finds in
    let there = found finds.object (stack_at c.args.stack.now.terms c.args.height) c.in-MakeMap.is finds.room finds.ready in
    let on = there.1 in
    let room = map_room finds.code finds.object on.0 on.1 c.in-MakeMap.keys c.in-MakeMap.otherwise c.args.height c.args.stack.now.terms there.0 on.3 in
    let room = rw finds.same at room in
    (search rules, (there.0.within, (room.0, (room.1, room.2))))

pub returns-in-Call-clause-flow : goal.returns-in-Call-clause-flow
returns-in-Call-clause-flow g c = leads_here c.call.result c.args.code.now.constants (stack_at c.args.stack.now.terms c.args.height) c.call.new.self.terms c.in-Call.is c.call.ensures.flow

pub returns-in-MakeTuple-clause-flow : goal.returns-in-MakeTuple-clause-flow
returns-in-MakeTuple-clause-flow g c = leads_here c.make_tuple.result c.args.code.now.constants (stack_at c.args.stack.now.terms c.args.height) c.make_tuple.new.self.terms c.in-MakeTuple.is c.make_tuple.ensures.flow

pub returns-in-MakeCons-clause-flow : goal.returns-in-MakeCons-clause-flow
returns-in-MakeCons-clause-flow g c = leads_here c.make_list.result c.args.code.now.constants (stack_at c.args.stack.now.terms c.args.height) c.make_list.new.self.terms c.in-MakeCons.is c.make_list.ensures.flow

pub returns-in-MakeMap-clause-flow : goal.returns-in-MakeMap-clause-flow
returns-in-MakeMap-clause-flow g c = rw c.in-MakeMap.is c.make_map.ensures.flow

pub returns-in-Arith-clause-flow : goal.returns-in-Arith-clause-flow
returns-in-Arith-clause-flow g c = rw c.in-Arith.is (λ p object held same. c.arithmetic.ensures.flow p object held)

pub looking-requires : goal.looking-requires
looking-requires g c =
    let finds = c.requires.finds in
    (search rules, (looks_left c.args.instr c.requires.kind c.in_default.not-Call c.in_default.not-Arith c.in_default.not-MakeTuple c.in_default.not-MakeCons c.in_default.not-MakeMap, ((finds.code, finds.room.operands), (finds.room.within, (finds.code, finds.object, finds.held, finds.ready)))))

pub returns-in_default-clause-flow : goal.returns-in_default-clause-flow
returns-in_default-clause-flow g c = λ p object held same. c.looking.ensures.flow p object held

pub returns-in-Call-clause-within : goal.returns-in-Call-clause-within
returns-in-Call-clause-within g c = c.call.ensures.within

pub returns-in-Call-clause-count : goal.returns-in-Call-clause-count
returns-in-Call-clause-count g c = c.call.ensures.count

pub returns-in-Arith-clause-within : goal.returns-in-Arith-clause-within
returns-in-Arith-clause-within g c = c.arithmetic.ensures.within

pub returns-in-Arith-clause-count : goal.returns-in-Arith-clause-count
returns-in-Arith-clause-count g c = c.arithmetic.ensures.count

pub returns-in-MakeTuple-clause-within : goal.returns-in-MakeTuple-clause-within
returns-in-MakeTuple-clause-within g c = c.make_tuple.ensures.within

pub returns-in-MakeTuple-clause-count : goal.returns-in-MakeTuple-clause-count
returns-in-MakeTuple-clause-count g c = c.make_tuple.ensures.count

pub returns-in-MakeCons-clause-within : goal.returns-in-MakeCons-clause-within
returns-in-MakeCons-clause-within g c = c.make_list.ensures.within

pub returns-in-MakeCons-clause-count : goal.returns-in-MakeCons-clause-count
returns-in-MakeCons-clause-count g c = c.make_list.ensures.count

pub returns-in-MakeMap-clause-within : goal.returns-in-MakeMap-clause-within
returns-in-MakeMap-clause-within g c = c.make_map.ensures.within

pub returns-in-MakeMap-clause-count : goal.returns-in-MakeMap-clause-count
returns-in-MakeMap-clause-count g c = c.make_map.ensures.count

pub returns-in-Arith-clause-memory : goal.returns-in-Arith-clause-memory
returns-in-Arith-clause-memory g c none few of_stack = (refl, c.arithmetic.ensures.borrowed of_stack)

pub returns-in-Call-clause-memory : goal.returns-in-Call-clause-memory
returns-in-Call-clause-memory g c none few of_stack =
    let finds = c.requires.finds in
    let there = found finds.object (stack_at c.args.stack.now.terms c.args.height) c.in-Call.is finds.room finds.ready in
    c.call.ensures.memory of_stack (omega (arith, there.0.operands, few, there.0.within))

pub returns-in_default-clause-within : goal.returns-in_default-clause-within
returns-in_default-clause-within g c = c.looking.ensures.within

pub returns-in_default-clause-count : goal.returns-in_default-clause-count
returns-in_default-clause-count g c = refl

pub returns-in_default-clause-memory : goal.returns-in_default-clause-memory
returns-in_default-clause-memory g c none few of_stack = (refl, of_stack)
