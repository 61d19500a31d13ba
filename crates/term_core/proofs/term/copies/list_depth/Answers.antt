use Rattle.std.proofs.Common.{◌<◌, arith, length}
use Rattle.std.specs.Prelude.{List, map as each}
use Rattle.std.proofs.lemmas.List.{length-map}
use Rattle.term_core.specs.Datum.{Datum}
use Rattle.term_core.specs.Datum.Datum.{nil}
use Rattle.term_core.specs.TermFalls.{depth-cells}
use Rattle.term_core.proofs.LimitLemmas.{cells-IsTerm, cells-long, cells-not_long}
use Rattle.term_core.proofs.term.copies.list_depth.Goals as goal

pub returns-then-deepest-ge-MAX_DEPTH-clause-refused : goal.returns-then-deepest-ge-MAX_DEPTH-clause-refused
returns-then-deepest-ge-MAX_DEPTH-clause-refused g c =
    let ds : List Datum = each (λ t. t.now) c.args.terms.now in
    let long = length-map c.args.terms.now (λ t. t.now) in
    let some : 0 < length ds = omega (arith, c.requires) in
    omega (arith, depth-cells ds nil some)

pub returns-then-terms-gt-MAX_LIST-clause-refused : goal.returns-then-terms-gt-MAX_LIST-clause-refused
returns-then-terms-gt-MAX_LIST-clause-refused g c =
    let ds : List Datum = each (λ t. t.now) c.args.terms.now in
    let long = length-map c.args.terms.now (λ t. t.now) in
    let some : 0 < length ds = omega (arith, c.requires) in
    (omega (arith, depth-cells ds nil some), cells-long ds nil some (omega arith))

pub returns-clause-ok : goal.returns-clause-ok
returns-clause-ok g c =
    let ds : List Datum = each (λ t. t.now) c.args.terms.now in
    let long = length-map c.args.terms.now (λ t. t.now) in
    let some : 0 < length ds = omega (arith, c.requires) in
    record {
      depth = omega (arith, depth-cells ds nil some);
      within = cells-IsTerm ds nil some c.deepest.ensures.sound tt (omega arith) (omega arith);
      short = cells-not_long ds nil (omega arith) some;
    }
