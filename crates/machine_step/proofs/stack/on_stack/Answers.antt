use Rattle.std.proofs.Common.{rules, arith}
use Rattle.machine_stack.specs.Stack.{stack_at}
use Rattle.machine_step.proofs.TableLemmas.{found, computes_left, leads_here}
use Rattle.machine_step.proofs.stack.on_stack.Goals as goal

pub field-requires : goal.field-requires
field-requires g c =
    let finds = c.requires.finds in
    let there = found finds.object (stack_at c.args.stack.now.terms c.args.height) c.in-Field.is finds.room finds.ready in
    (search rules, (omega (arith, there.0.operands), (there.0.within, (finds.code, finds.object, finds.held, there.1))))

pub head-requires : goal.head-requires
head-requires g c =
    let finds = c.requires.finds in
    let there = found finds.object (stack_at c.args.stack.now.terms c.args.height) c.in-Head.is finds.room finds.ready in
    (search rules, (omega (arith, there.0.operands), (there.0.within, (finds.code, finds.object, finds.held, there.1))))

pub tail-requires : goal.tail-requires
tail-requires g c =
    let finds = c.requires.finds in
    let there = found finds.object (stack_at c.args.stack.now.terms c.args.height) c.in-Tail.is finds.room finds.ready in
    (search rules, (omega (arith, there.0.operands), (there.0.within, (finds.code, finds.object, finds.held, there.1))))

pub value-requires : goal.value-requires
value-requires g c =
    let finds = c.requires.finds in
    let there = found finds.object (stack_at c.args.stack.now.terms c.args.height) c.in-Value.is finds.room finds.ready in
    (search rules, (omega (arith, there.0.operands), (there.0.within, record { code = finds.code; same = finds.same; object = finds.object; held = finds.held; ready = there.1 })))

pub returns-in-Dup-clause-flow : goal.returns-in-Dup-clause-flow
returns-in-Dup-clause-flow g c = leads_here c.duplicate.result c.args.code.now.constants (stack_at c.args.stack.now.terms c.args.height) c.duplicate.new.self.terms c.in-Dup.is c.duplicate.ensures.flow

pub returns-in-Field-clause-flow : goal.returns-in-Field-clause-flow
returns-in-Field-clause-flow g c = leads_here c.field.result c.args.code.now.constants (stack_at c.args.stack.now.terms c.args.height) c.field.new.self.terms c.in-Field.is c.field.ensures.flow

pub returns-in-Head-clause-flow : goal.returns-in-Head-clause-flow
returns-in-Head-clause-flow g c = leads_here c.head.result c.args.code.now.constants (stack_at c.args.stack.now.terms c.args.height) c.head.new.self.terms c.in-Head.is c.head.ensures.flow

pub returns-in-Tail-clause-flow : goal.returns-in-Tail-clause-flow
returns-in-Tail-clause-flow g c = leads_here c.tail.result c.args.code.now.constants (stack_at c.args.stack.now.terms c.args.height) c.tail.new.self.terms c.in-Tail.is c.tail.ensures.flow

pub returns-in-Value-clause-flow : goal.returns-in-Value-clause-flow
returns-in-Value-clause-flow g c = rw c.in-Value.is c.value.ensures.flow

pub returns-in-Dup-clause-within : goal.returns-in-Dup-clause-within
returns-in-Dup-clause-within g c = c.duplicate.ensures.within

pub returns-in-Dup-clause-count : goal.returns-in-Dup-clause-count
returns-in-Dup-clause-count g c = c.duplicate.ensures.count

pub returns-in-Dup-clause-memory : goal.returns-in-Dup-clause-memory
returns-in-Dup-clause-memory g c none few of_stack = c.duplicate.ensures.memory of_stack

pub returns-in-Field-clause-within : goal.returns-in-Field-clause-within
returns-in-Field-clause-within g c = c.field.ensures.within

pub returns-in-Field-clause-count : goal.returns-in-Field-clause-count
returns-in-Field-clause-count g c = c.field.ensures.count

pub returns-in-Field-clause-memory : goal.returns-in-Field-clause-memory
returns-in-Field-clause-memory g c none few of_stack = c.field.ensures.memory of_stack

pub returns-in-Head-clause-within : goal.returns-in-Head-clause-within
returns-in-Head-clause-within g c = c.head.ensures.within

pub returns-in-Head-clause-count : goal.returns-in-Head-clause-count
returns-in-Head-clause-count g c = c.head.ensures.count

pub returns-in-Head-clause-memory : goal.returns-in-Head-clause-memory
returns-in-Head-clause-memory g c none few of_stack = c.head.ensures.memory of_stack

pub returns-in-Tail-clause-within : goal.returns-in-Tail-clause-within
returns-in-Tail-clause-within g c = c.tail.ensures.within

pub returns-in-Tail-clause-count : goal.returns-in-Tail-clause-count
returns-in-Tail-clause-count g c = c.tail.ensures.count

pub returns-in-Tail-clause-memory : goal.returns-in-Tail-clause-memory
returns-in-Tail-clause-memory g c none few of_stack = c.tail.ensures.memory of_stack

pub returns-in-Value-clause-within : goal.returns-in-Value-clause-within
returns-in-Value-clause-within g c = c.value.ensures.within

pub returns-in-Value-clause-count : goal.returns-in-Value-clause-count
returns-in-Value-clause-count g c = c.value.ensures.count

pub returns-in-Value-clause-memory : goal.returns-in-Value-clause-memory
returns-in-Value-clause-memory g c none few of_stack = c.value.ensures.memory of_stack

pub computing-requires : goal.computing-requires
computing-requires g c =
    (search rules, (computes_left c.args.instr c.requires.kind c.in_default.not-Dup c.in_default.not-Field c.in_default.not-Head c.in_default.not-Tail c.in_default.not-Value, c.requires.finds))

pub returns-in_default-clause-flow : goal.returns-in_default-clause-flow
returns-in_default-clause-flow g c = c.computing.ensures.flow

pub returns-in_default-clause-within : goal.returns-in_default-clause-within
returns-in_default-clause-within g c = c.computing.ensures.within

pub returns-in_default-clause-count : goal.returns-in_default-clause-count
returns-in_default-clause-count g c = c.computing.ensures.count

pub returns-in_default-clause-memory : goal.returns-in_default-clause-memory
returns-in_default-clause-memory g c = c.computing.ensures.memory
