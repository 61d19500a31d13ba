use Rattle.std.proofs.Common.{None, drop, arith}
use Rattle.term_core.proofs.LimitLemmas.{list-levels}
use Rattle.term_core.proofs.term.levels_of_tail.Goals as goal

pub overflow_sub-result : goal.overflow_sub-result
overflow_sub-result g c =
    let kept = rw c.in-ListOfOne.is at c.tail.invariant.1 in omega (arith, list-levels c.in-ListOfOne.depth c.in-ListOfOne.field-1.value None kept)

pub returns-in-ListOfOne-clause-value : goal.returns-in-ListOfOne-clause-value
returns-in-ListOfOne-clause-value g c =
    let kept = rw c.in-ListOfOne.is at c.tail.invariant.1 in
    let seen = rw c.in-ListOfOne.is at c.tail.view_is in
    let some = c.in-Some.is in
    let levels = list-levels c.in-ListOfOne.depth c.in-ListOfOne.field-1.value None kept in
    rw (some, ← seen) (omega arith)

pub overflow_sub-result-in-ListOfTwo : goal.overflow_sub-result-in-ListOfTwo
overflow_sub-result-in-ListOfTwo g c =
    let kept = rw c.in-ListOfTwo.is at c.tail.invariant.1 in omega (arith, list-levels c.in-ListOfTwo.depth c.in-ListOfTwo.field-1.value None kept)

pub returns-in-ListOfTwo-clause-value : goal.returns-in-ListOfTwo-clause-value
returns-in-ListOfTwo-clause-value g c =
    let kept = rw c.in-ListOfTwo.is at c.tail.invariant.1 in
    let seen = rw c.in-ListOfTwo.is at c.tail.view_is in
    let some = c.in-Some.is in
    let levels = list-levels c.in-ListOfTwo.depth c.in-ListOfTwo.field-1.value None kept in
    rw (some, ← seen) (omega arith)

pub overflow_sub-result-in-ListOfThree : goal.overflow_sub-result-in-ListOfThree
overflow_sub-result-in-ListOfThree g c =
    let kept = rw c.in-ListOfThree.is at c.tail.invariant.1 in omega (arith, list-levels c.in-ListOfThree.depth c.in-ListOfThree.field-1.value None kept)

pub returns-in-ListOfThree-clause-value : goal.returns-in-ListOfThree-clause-value
returns-in-ListOfThree-clause-value g c =
    let kept = rw c.in-ListOfThree.is at c.tail.invariant.1 in
    let seen = rw c.in-ListOfThree.is at c.tail.view_is in
    let some = c.in-Some.is in
    let levels = list-levels c.in-ListOfThree.depth c.in-ListOfThree.field-1.value None kept in
    rw (some, ← seen) (omega arith)

pub overflow_sub-result-in-ListOfFour : goal.overflow_sub-result-in-ListOfFour
overflow_sub-result-in-ListOfFour g c =
    let kept = rw c.in-ListOfFour.is at c.tail.invariant.1 in omega (arith, list-levels c.in-ListOfFour.depth c.in-ListOfFour.field-1.value None kept)

pub returns-in-ListOfFour-clause-value : goal.returns-in-ListOfFour-clause-value
returns-in-ListOfFour-clause-value g c =
    let kept = rw c.in-ListOfFour.is at c.tail.invariant.1 in
    let seen = rw c.in-ListOfFour.is at c.tail.view_is in
    let some = c.in-Some.is in
    let levels = list-levels c.in-ListOfFour.depth c.in-ListOfFour.field-1.value None kept in
    rw (some, ← seen) (omega arith)

pub overflow_sub-result-in-List : goal.overflow_sub-result-in-List
overflow_sub-result-in-List g c =
    let kept = rw c.in-List.is at c.tail.invariant.1 in omega (arith, list-levels c.in-List.depth c.in-List.field-1.value.elements.items c.in-List.field-1.value.tail kept)

pub returns-in-List-clause-value : goal.returns-in-List-clause-value
returns-in-List-clause-value g c =
    let kept = rw c.in-List.is at c.tail.invariant.1 in
    let seen = rw c.in-List.is at c.tail.view_is in
    let some = c.in-Some.is in
    let levels = list-levels c.in-List.depth c.in-List.field-1.value.elements.items c.in-List.field-1.value.tail kept in
    rw (some, ← seen) (omega arith)

pub overflow_sub-result-in-Rest : goal.overflow_sub-result-in-Rest
overflow_sub-result-in-Rest g c =
    let kept = rw c.in-Rest.is at c.tail.invariant.1 in omega (arith, list-levels c.in-Rest.depth (drop c.in-Rest.field-1 c.in-Rest.field-2.value.elements.items) c.in-Rest.field-2.value.tail kept.0)

pub returns-in-Rest-clause-value : goal.returns-in-Rest-clause-value
returns-in-Rest-clause-value g c =
    let kept = rw c.in-Rest.is at c.tail.invariant.1 in
    let seen = rw c.in-Rest.is at c.tail.view_is in
    let some = c.in-Some.is in
    let levels = list-levels c.in-Rest.depth (drop c.in-Rest.field-1 c.in-Rest.field-2.value.elements.items) c.in-Rest.field-2.value.tail kept.0 in
    rw (some, ← seen) (omega arith)
