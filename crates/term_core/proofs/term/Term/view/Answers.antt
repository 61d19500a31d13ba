use Rattle.std.proofs.Common.{◌<◌, ◌^◌, refl, arith}
use Rattle.term_core.proofs.SharedLemmas.{more_than}
use Rattle.term_core.proofs.term.Term.view.Goals as goal

pub front_text-requires : goal.front_text-requires
front_text-requires g c =
    let small : 14 < 2 ^ 63 = omega arith in
    let kept = rw c.in-ShortAtom.is at c.self.invariant.1 in (small, (small, (kept.0, kept.2)))

pub front_text-requires-in-MiddleAtom : goal.front_text-requires-in-MiddleAtom
front_text-requires-in-MiddleAtom g c =
    let small : 32 < 2 ^ 63 = omega arith in
    let kept = rw c.in-MiddleAtom.is at c.self.invariant.1 in
    (small, (small, rw c.deref.ensures (kept.1, kept.2)))

pub slice_bounds-result-end : goal.slice_bounds-result-end
slice_bounds-result-end g c = refl

pub from_ref-requires : goal.from_ref-requires
from_ref-requires g c = omega arith

pub behind-requires : goal.behind-requires
behind-requires g c =
    let kept = rw c.in-Rest.is at c.self.invariant.1 in
    let more = more_than c.in-Rest.count c.in-Rest.cells.value.elements.items kept.0.1 in
    rw (c.as_slice-in-Rest.ensures.value, c.deref-in-Rest.ensures) (omega (arith, more))

pub front-requires : goal.front-requires
front-requires g c =
    let small : 14 < 2 ^ 63 = omega arith in (small, (small, rw c.in-ShortBinary.is at c.self.invariant.1))

pub front-requires-in-MiddleBinary : goal.front-requires-in-MiddleBinary
front-requires-in-MiddleBinary g c =
    let small : 32 < 2 ^ 63 = omega arith in (small, (small, rw c.in-MiddleBinary.is at c.self.invariant.1))

pub front-requires-in-LargeBinary : goal.front-requires-in-LargeBinary
front-requires-in-LargeBinary g c =
    let small : 48 < 2 ^ 63 = omega arith in (small, (small, rw c.in-LargeBinary.is at c.self.invariant.1))

pub shared_whole_as_slice-result : goal.shared_whole_as_slice-result
shared_whole_as_slice-result g c = omega arith

pub shared_whole_as_slice-result-in-TupleOfTwo : goal.shared_whole_as_slice-result-in-TupleOfTwo
shared_whole_as_slice-result-in-TupleOfTwo g c = omega arith

pub shared_whole_as_slice-result-in-TupleOfThree : goal.shared_whole_as_slice-result-in-TupleOfThree
shared_whole_as_slice-result-in-TupleOfThree g c = omega arith

pub shared_whole_as_slice-result-in-TupleOfFour : goal.shared_whole_as_slice-result-in-TupleOfFour
shared_whole_as_slice-result-in-TupleOfFour g c = omega arith

pub shared_whole_as_slice-result-in-TupleOfFive : goal.shared_whole_as_slice-result-in-TupleOfFive
shared_whole_as_slice-result-in-TupleOfFive g c = omega arith

pub shared_whole_as_slice-result-in-TupleOfSix : goal.shared_whole_as_slice-result-in-TupleOfSix
shared_whole_as_slice-result-in-TupleOfSix g c = omega arith

pub shared_whole_as_slice-result-in-ListOfOne : goal.shared_whole_as_slice-result-in-ListOfOne
shared_whole_as_slice-result-in-ListOfOne g c = omega arith

pub shared_whole_as_slice-result-in-ListOfTwo : goal.shared_whole_as_slice-result-in-ListOfTwo
shared_whole_as_slice-result-in-ListOfTwo g c = omega arith

pub shared_whole_as_slice-result-in-ListOfThree : goal.shared_whole_as_slice-result-in-ListOfThree
shared_whole_as_slice-result-in-ListOfThree g c = omega arith

pub shared_whole_as_slice-result-in-ListOfFour : goal.shared_whole_as_slice-result-in-ListOfFour
shared_whole_as_slice-result-in-ListOfFour g c = omega arith

pub shared_whole_as_slice-result-in-MapOfTwo : goal.shared_whole_as_slice-result-in-MapOfTwo
shared_whole_as_slice-result-in-MapOfTwo g c = omega arith

pub shared_whole_as_slice-result-in-MapOfThree : goal.shared_whole_as_slice-result-in-MapOfThree
shared_whole_as_slice-result-in-MapOfThree g c = omega arith

pub shared_whole_as_slice-result-in-MapOfFour : goal.shared_whole_as_slice-result-in-MapOfFour
shared_whole_as_slice-result-in-MapOfFour g c = omega arith
