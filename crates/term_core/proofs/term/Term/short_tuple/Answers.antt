use Rattle.std.proofs.Common.{arith, refl, ap, ◌∙◌, sym, subst, length}
use Rattle.std.proofs.lemmas.Result.{err_from_is_err_and}
use Rattle.term_core.proofs.LimitLemmas.{tuple-IsTerm, item_count-items_of}
use Rattle.term_core.specs.Datum.{items_of}
use Rattle.term_core.specs.Limits.{items_depth, IsTerm}
use Rattle.term_core.specs.ShortRow.{row_items}
use Rattle.term_core.proofs.term.Term.short_tuple.Goals as goal

pub returns-in_err-shape-clause-refused : goal.returns-in_err-shape-clause-refused
returns-in_err-shape-clause-refused g c =
    let p = err_from_is_err_and c.from_residual.result c.from_residual.ensures.1 in
    let count = item_count-items_of (row_items c.args.elements) in
    let few = ap length (sym c.as_slice.ensures.terms) in
    let depth = c.deepest-deepest.ensures.value ∙ ap (λ xs. items_depth (items_of xs)) c.as_slice.ensures.terms in
    let least = c.as_slice.ensures.few in
    rw (p.1, p.2) (rw (c.in_err-shape.ensures.refused.0, c.in_err-shape.ensures.refused.1) (refl, (omega arith, λ h. omega arith)))

pub invariant_of-result : goal.invariant_of-result
invariant_of-result g c =
    let same = c.as_slice.ensures.terms in
    let deep = c.deepest-deepest.ensures.value in
    let least = c.as_slice.ensures.few in
    (subst IsTerm (sym c.in_ok-shape.ensures.value) (tuple-IsTerm _ _ same (rw (← deep) c.if-deepest-ge-MAX_DEPTH.false) (omega arith) c.deepest-deepest.ensures.sound), c.in_ok-shape.ensures.kept)
