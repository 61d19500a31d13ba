use Rattle.std.proofs.Common.{arith, refl, sym, subst}
use Rattle.std.specs.Prelude.{List, map as each}
use Rattle.std.proofs.lemmas.List.{length-map}
use Rattle.term_core.specs.Datum.{Datum}
use Rattle.term_core.specs.Limits.{IsTerm}
use Rattle.term_core.proofs.LimitLemmas.{tuple-IsTerm, item_count-items_of}
use Rattle.term_core.proofs.term.Term.tuple_of_copies.Goals as goal

pub returns-then-elements-gt-MAX_TUPLE-clause-refused : goal.returns-then-elements-gt-MAX_TUPLE-clause-refused
returns-then-elements-gt-MAX_TUPLE-clause-refused g c =
    let ds : List Datum = each (λ t. t.now) c.args.elements.now in
    let count = item_count-items_of ds in
    let long = length-map c.args.elements.now (λ t. t.now) in
    (omega arith, omega arith)

pub returns-in-Err-clause-refused : goal.returns-in-Err-clause-refused
returns-in-Err-clause-refused g c =
    let ds : List Datum = each (λ t. t.now) c.args.elements.now in
    let count = item_count-items_of ds in
    let long = length-map c.args.elements.now (λ t. t.now) in
    (omega arith, λ h. omega arith)

pub invariant_of-result : goal.invariant_of-result
invariant_of-result g c =
    let ds : List Datum = each (λ t. t.now) c.args.elements.now in
    let long = length-map c.args.elements.now (λ t. t.now) in
    let whole = tuple-IsTerm ds ds refl (omega arith) (omega arith) c.deepest-deepest.ensures.sound in
    (subst IsTerm (sym c.in-Ok.ensures.value) whole, c.in-Ok.ensures.kept)
