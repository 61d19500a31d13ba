use Rattle.std.proofs.Common.{sym}
use Rattle.std.specs.Option.{option_copied}
use Rattle.term_core.specs.Term.{tail_of}
use Rattle.term_build.proofs.RestLemmas.{rest_of-within, rest_of-past, rest_of-end, no_list-end}
use Rattle.term_operand.proofs.OrderLemmas.{IsSimple-within, whole_tail}
use Rattle.term_operand.proofs.operand.whole_after.Goals as goal

pub returns-then-count-elements : goal.returns-then-count-elements
returns-then-count-elements g c =
    let list = c.in-List in
    let tail = option_copied list.tail in
    IsSimple-within c.args.count list.elements.now (tail_of tail) _ c.if-count-elements.true
    (rest_of-within c.args.count list.elements.now tail c.args.list.now list.ensures.split.1 list.ensures.value)

pub returns-else-count-elements : goal.returns-else-count-elements
returns-else-count-elements g c =
    let list = c.in-List in
    whole_tail list.tail _
    (rest_of-past c.args.count list.elements.now (option_copied list.tail) c.args.list.now c.if-count-elements.false list.ensures.split.1 list.ensures.value)

pub returns-in_default : goal.returns-in_default
returns-in_default g c =
    sym (rest_of-end c.args.count c.args.list.now (no_list-end c.view.result c.args.list.now c.in_default.not-List c.view.ensures.value))
