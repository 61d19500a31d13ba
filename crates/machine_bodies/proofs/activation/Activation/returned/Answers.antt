use Rattle.std.proofs.Common.{rules, ◌∙◌, sym, arith}
use Rattle.mcode.specs.declared.instr.Instr.TheVariants as instr
use Rattle.term_core.specs.Datum.Datum.{nil}
use Rattle.term_operand.specs.Value.{value_datum}
use Rattle.machine_stack.specs.Stack.{stack_at}
use Rattle.machine_bodies.proofs.StandLemmas.{has_room, returns_here}
use Rattle.machine_bodies.proofs.activation.Activation.returned.Goals as goal

pub pop-requires : goal.pop-requires
pop-requires g c =
    let stands = c.requires.stands in
    let settled = c.in_ok-settle.ensures.settled in
    let room = has_room stands nil instr.Return c.requires.read in
    (search rules, (omega (arith, room.operands, settled.height), omega (arith, room.within, settled.height, settled.places)))

pub returns : goal.returns
returns g c = λ object stands.
    let settled = c.in_ok-settle.ensures.settled in
    returns_here stands object (value_datum c.pop.result) (stack_at c.pop.new.self.terms _) c.requires.read (sym settled.stack ∙ c.pop.ensures.terms)
