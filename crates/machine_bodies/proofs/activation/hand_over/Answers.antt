use Rattle.std.proofs.Common.{◌≡◌, ◌≤◌, ◌-◌, ◌+◌, ◌∷◌, ◌++◌, [], length, take, sym, ap, ◌∙◌, arith}
use Rattle.std.proofs.lemmas.List.{length-set, take_all}
use Rattle.term_operand.specs.Value.{value_datum}
use Rattle.machine_stack.specs.Stack.{stack_at}
use Rattle.machine_stack.proofs.StackLemmas.{taken_more, stack_height}
use Rattle.machine_bodies.proofs.HandLemmas.{handed_more}
use Rattle.machine_bodies.proofs.activation.hand_over.Goals as goal

pub loop-handed-preserved : goal.loop-handed-preserved
loop-handed-preserved g c =
    let stack = stack_at c.args.from.now.terms c.args.height in
    let handed = c.loop-handed.handed in
    let height = c.args.height in
    let d = value_datum c.pop-value.result in
    let inv = c.loop-handed.invariant in
    let below : height - (handed + 1) ≡ height - handed - 1 = omega arith in
    let more = taken_more stack handed d (stack_at c.pop-value.new.self.terms (height - handed - 1)) (sym inv.left ∙ c.pop-value.ensures.terms) in
    let within : c.args.count ≤ length c.loop-handed.to.terms = omega (arith, c.requires.room, inv.room) in
    let put : take (handed + 1) (stack_at c.put.new.self.terms c.args.count) ≡ take handed (stack_at c.loop-handed.to.terms c.args.count) ++ d ∷ [] =
    rw (c.put.ensures.terms, c.from.ensures) (handed_more c.loop-handed.to.terms c.args.count handed d c.loop-handed-test.true within) in
    record {
      places = c.pop-value.ensures.count ∙ inv.places;
      room = ap length c.put.ensures.terms ∙ length-set c.loop-handed.to.terms (c.from.result - 1) d ∙ inv.room;
      left = rw below more.1;
      handed = put ∙ ap (λ ds. ds ++ d ∷ []) inv.handed ∙ sym more.0;
    }

pub returns-clause-handed : goal.returns-clause-handed
returns-clause-handed g c =
    let done : c.loop-handed.handed ≡ c.args.count = omega arith in
    let inv = c.loop-handed.invariant in
    let handed = inv.handed in
    let handed = rw done at handed in
    let deep = stack_height c.loop-handed.to.terms c.args.count (omega (arith, c.requires.room, inv.room)) in
    sym (take_all c.args.count (stack_at c.loop-handed.to.terms c.args.count) (omega (arith, deep))) ∙ handed

pub returns-clause-left : goal.returns-clause-left
returns-clause-left g c =
    let done : c.loop-handed.handed ≡ c.args.count = omega arith in
    let left = c.loop-handed.invariant.left in
    rw done at left
