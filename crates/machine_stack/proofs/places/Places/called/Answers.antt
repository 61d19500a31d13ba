use Rattle.std.proofs.Common.{ap, sym, ◌∙◌, arith}
use Rattle.std.proofs.lemmas.Result.{IfOk-weaker}
use Rattle.prims.specs.Calls.{function_of}
use Rattle.term_operand.specs.Value.{value_datum, is_borrowed}
use Rattle.term_operand.proofs.BorrowLemmas.{two_pass}
use Rattle.machine_stack.proofs.StackLemmas.{two_items}
use Rattle.machine_stack.proofs.places.Places.called.Goals as goal

pub returns-in-len2-clause-value : goal.returns-in-len2-clause-value
returns-in-len2-clause-value g c =
    let places = c.top_places.result.now in
    let two = two_items value_datum places c.left-item.result c.right-item.result (omega (arith, c.in-len2.len_at_least, c.in-len2.len_below)) c.left-item.is c.right-item.is in
    IfOk-weaker c.call_two.result _ _ (λ value is. is ∙ ap (function_of c.args.function) (sym two ∙ c.top_places.ensures.terms)) c.call_two.ensures.value

pub returns-in-len2-clause-memory : goal.returns-in-len2-clause-memory
returns-in-len2-clause-memory g c is few =
    let places = c.top_places.result.now in
    let both = two_pass is_borrowed places c.left-item.result c.right-item.result (omega (arith, c.in-len2.len_at_least, c.in-len2.len_below)) c.left-item.is c.right-item.is (c.top_places.ensures.borrowed is) in
    c.call_two.ensures.memory both.0 both.1

pub returns-in_default-clause-value : goal.returns-in_default-clause-value
returns-in_default-clause-value g c =
    IfOk-weaker c.call_values.result _ _ (λ value is. is ∙ ap (function_of c.args.function) c.top_places.ensures.terms) c.call_values.ensures.value

pub returns-in_default-clause-memory : goal.returns-in_default-clause-memory
returns-in_default-clause-memory g c is few =
    c.call_values.ensures.memory (c.top_places.ensures.borrowed is) (omega (arith, few, c.top_places.ensures.count))
