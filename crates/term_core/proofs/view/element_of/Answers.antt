use Rattle.std.proofs.Common.{Some, ap, ◌∙◌, sym, arith}
use Rattle.term_core.proofs.PartLemmas.{field_past, field_read, field_zero}
use Rattle.term_core.proofs.view.element_of.Goals as goal

pub returns-then-place-eq0 : goal.returns-then-place-eq0
returns-then-place-eq0 g c =
    field_zero c.args.elements.now c.args.place (sym c.from-place.ensures ∙ c.if-place-eq0.true)

pub returns-then-elements-place : goal.returns-then-elements-place
returns-then-elements-place g c =
    field_past c.args.elements.now c.args.place (omega (arith, c.from-place.ensures, c.if-elements-place.true))

pub returns : goal.returns
returns g c =
    let read = rw c.from-place.ensures at c.index-elements-place.is in
    field_read c.args.place c.args.elements.now c.index-elements-place.result (omega (arith, c.from-place.ensures, c.if-place-eq0.false)) (omega (arith, c.from-place.ensures, c.if-place-eq0.false, c.if-elements-place.false)) ∙ ap Some (sym read)
