use Rattle.std.proofs.Common.{length, ap, subst, ◌≤◌, arith}
use Rattle.term_core.specs.Datum.{Datum}
use Rattle.term_core.specs.Parts.{IsShared}
use Rattle.term_core.specs.Term.{few_items}
use Rattle.term_core.proofs.SharedLemmas.{whole_kept, shape_few}
use Rattle.term_core.proofs.term.Term.shared_rest.Goals as goal

pub shared_rest_of-requires-clause-list : goal.shared_rest_of-requires-clause-list
shared_rest_of-requires-clause-list g c =
    let kept = rw c.in-List.is at c.self.invariant.1 in
    let term = rw c.in-List.is at c.self.invariant.0 in
    whole_kept c.in-List.depth c.in-List.cells.value.elements.items c.in-List.cells.value.tail kept term

pub returns-in_default : goal.returns-in_default
returns-in_default g c =
    let s = c.self.inside.shape in
    let few : length (few_items s) ≤ 4 = omega (arith, ap length c.few_of-few.ensures.elements, c.few_of-few.ensures.few) in
    let P : Datum → Type 0 = λ d. IsShared c.args.count d → ⊥ in
    subst P c.self.view_is (shape_few s c.args.count c.in_default.not-List c.in_default.not-Rest few)
