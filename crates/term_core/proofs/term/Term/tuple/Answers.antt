use Rattle.std.proofs.Common.{arith, refl, sym, subst}
use Rattle.std.proofs.lemmas.Result.{err_from_is_err_and}
use Rattle.term_core.proofs.LimitLemmas.{tuple-IsTerm, item_count-items_of}
use Rattle.term_core.specs.Limits.{IsTerm}
use Rattle.term_core.proofs.term.Term.tuple.Goals as goal

pub returns-then-len-gt-MAX_TUPLE-clause-refused : goal.returns-then-len-gt-MAX_TUPLE-clause-refused
returns-then-len-gt-MAX_TUPLE-clause-refused g c =
    let count = item_count-items_of c.args.elements.items in
    let depth = rw c.as_slice.ensures.value at c.deepest-deepest.ensures.value in (refl, (omega arith, omega arith))

pub returns-in_err-shape-clause-refused : goal.returns-in_err-shape-clause-refused
returns-in_err-shape-clause-refused g c =
    let p = err_from_is_err_and c.from_residual.result c.from_residual.ensures.1 in
    let count = item_count-items_of c.args.elements.items in
    let depth = rw c.as_slice.ensures.value at c.deepest-deepest.ensures.value in
    rw (p.1, p.2) (rw (c.in_err-shape.ensures.refused.0, c.in_err-shape.ensures.refused.1) (refl, (omega arith, λ h. omega arith)))

pub invariant_of-result-2 : goal.invariant_of-result-2
invariant_of-result-2 g c =
    let same = c.as_slice.ensures.value in
    let deep = c.deepest-deepest.ensures.value in
    let whole = tuple-IsTerm _ _ same (rw (← deep) c.if-deepest-ge-MAX_DEPTH.false) (omega (arith, c.as_slice.ensures.len)) c.deepest-deepest.ensures.sound in
    (subst IsTerm (sym c.in_ok-shape.ensures.value) whole, c.in_ok-shape.ensures.kept)
