use Rattle.std.proofs.lemmas.Result.{on_ok_weaker}
use Rattle.compiler_patterns.proofs.WrittenLemmas.{known-writes, new-writes}
use Rattle.compiler_patterns.proofs.slots.VariableSlots.write_variable.Goals as goal

pub returns-then-bind : goal.returns-then-bind
returns-then-bind g c =
    on_ok_weaker c.put-then-bind.result
    (known-writes c.args.self.now c.args.number c.slot-slot.result c.requires c.slot-slot.ensures c.args.draft.now c.bind.new.self c.bind.ensures.bound c.bind.result c.put.new.self c.put-then-bind.new.self c.bind.ensures.was c.if-bind.true c.in_ok-put.ensures)
    c.put-then-bind.ensures

pub returns : goal.returns
returns g c =
    on_ok_weaker c.put-2.result
    (new-writes c.args.self.now c.args.number c.slot-slot.result c.requires c.slot-slot.ensures c.args.draft.now c.bind.new.self c.bind.ensures.bound c.bind.result c.put-2.new.self c.bind.ensures.was c.if-bind.false)
    c.put-2.ensures
