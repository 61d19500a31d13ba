use Rattle.std.proofs.Common.{◌-◌, take, drop, sym, ap, ◌∙◌}
use Rattle.std.proofs.lemmas.List.{take-map, drop-map}
use Rattle.term_operand.specs.Value.{value_datum, is_borrowed}
use Rattle.term_operand.proofs.BorrowLemmas.{all-take, all-drop}
use Rattle.machine_stack.proofs.StackLemmas.{stack_taken}
use Rattle.machine_stack.proofs.places.Places.top_places.Goals as goal

pub returns-clause-terms : goal.returns-clause-terms
returns-clause-terms g c =
    let places = c.as_slice.result.now in
    let left = c.args.height - c.args.count in
    rw (c.from-above.ensures, c.from.ensures, ← c.as_slice.ensures.terms)
    (sym (take-map value_datum (c.args.height - left) (drop left places))
    ∙ ap (take (c.args.height - left)) (sym (drop-map value_datum left places))
    ∙ rw c.as_slice.ensures.terms (stack_taken c.args.self.now.terms c.args.height c.args.count c.requires.deep c.requires.within))

pub returns-clause-borrowed : goal.returns-clause-borrowed
returns-clause-borrowed g c =
    let places = c.as_slice.result.now in
    let left = c.args.height - c.args.count in
    rw (c.from-above.ensures, c.from.ensures, ← c.as_slice.ensures.borrowed)
    (λ is. all-take is_borrowed (c.args.height - left) (drop left places) (all-drop is_borrowed left places is))
