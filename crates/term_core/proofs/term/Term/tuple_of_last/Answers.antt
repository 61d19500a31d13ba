use Rattle.std.proofs.Common.{arith, drop, refl, sym, subst}
use Rattle.std.specs.Prelude.{List}
use Rattle.std.proofs.lemmas.List.{length-drop}
use Rattle.term_core.specs.Datum.{Datum}
use Rattle.term_core.specs.Limits.{IsTerm}
use Rattle.term_core.proofs.LimitLemmas.{tuple-IsTerm, item_count-items_of}
use Rattle.term_core.proofs.term.Term.tuple_of_last.Goals as goal

pub returns-then-len-base-gt-MAX_TUPLE-clause-refused : goal.returns-then-len-base-gt-MAX_TUPLE-clause-refused
returns-then-len-base-gt-MAX_TUPLE-clause-refused g c =
    let ds : List Datum = drop c.args.base c.args.terms.now.items in
    let count = item_count-items_of ds in
    let long = length-drop c.args.base c.args.terms.now.items in
    let depth = rw (c.behind.ensures, c.as_slice.ensures.value) at c.deepest-deepest.ensures.value in
    (omega arith, omega arith)

pub returns-in-Err-clause-refused : goal.returns-in-Err-clause-refused
returns-in-Err-clause-refused g c =
    let ds : List Datum = drop c.args.base c.args.terms.now.items in
    let count = item_count-items_of ds in
    let long = length-drop c.args.base c.args.terms.now.items in
    let depth = rw (c.behind.ensures, c.as_slice.ensures.value) at c.deepest-deepest.ensures.value in
    (omega arith, λ h. omega arith)

pub invariant_of-result : goal.invariant_of-result
invariant_of-result g c =
    let ds : List Datum = drop c.args.base c.args.terms.now.items in
    let long = length-drop c.args.base c.args.terms.now.items in
    let depth = rw (c.behind.ensures, c.as_slice.ensures.value) at c.deepest-deepest.ensures.value in
    let sound = rw (c.behind.ensures, c.as_slice.ensures.value) at c.deepest-deepest.ensures.sound in
    let whole = tuple-IsTerm ds ds refl (omega arith) (omega arith) sound in
    (subst IsTerm (sym c.in-Ok.ensures.value) whole, c.in-Ok.ensures.kept)
