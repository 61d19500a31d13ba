use Rattle.std.proofs.Common.{rules, ◌≡◌, ◌==◌, refl, ap, sym, subst, ◌∙◌, eq-eqb}
use Rattle.std.specs.Prelude.{true, false, not, filter}
use Rattle.std.proofs.lemmas.Bool.{true≢false, eqb-true}
use Rattle.slab.specs.Slab.{get}
use Rattle.term_operand.specs.Order.{is_same}
use Rattle.hash_index.specs.Index.{Has}
use Rattle.part_core.specs.Rows.{Row, is_live}
use Rattle.part_hash.specs.Places.{Kept}
use Rattle.part_hash.proofs.StandLemmas.{some_is}
use Rattle.part_hash.proofs.SweepLemmas.{fewer_dead, live_left, none_dead}
use Rattle.part_hash.proofs.removing.sweep.Goals as goal

pub returns-in-Some-find-clause-done : goal.returns-in-Some-find-clause-done
returns-in-Some-find-clause-done g c = λ o rows spread s.
    let dead = c.in-Some.ensures.dead in
    let post = c.in-Some-find.ensures.found.1 in
    let holds : (c.in-Some-find.found == c.args.at) ≡ true = search (rules, post) in
    let same : c.in-Some-find.found ≡ c.args.at = eqb-true _ _ holds in
    let row : Kept = c.remove.result in
    let is : row ≡ dead.0 = some_is (sym c.remove.ensures.row ∙ ap (get c.args.store.now.rows) same ∙ dead.1) in
    let died : is_live row.0 ≡ false = ap (λ (r : Kept). is_live r.0) is ∙ dead.2 in (
      filter (λ (r : Row). not (is_same row.0.0 r.0)) rows,
      c.remove.ensures.done o rows spread (record { list = s.list; are = s.are; placed = s.placed; listed = s.listed; found = s.found; apart = s.apart; count = s.count; noted = s.noted }),
      live_left o c.args.store.now rows c.in-Some-find.found row c.remove.ensures.row died s,
      none_dead c.remove.new.store.rows c.args.at (ap (get c.remove.new.store.rows) (sym same) ∙ c.remove.ensures.others.changed),
      fewer_dead c.args.store.now.rows c.remove.new.store.rows c.in-Some-find.found c.remove.ensures.others,
    )

pub returns-in_default-find-clause-done : goal.returns-in_default-find-clause-done
returns-in_default-find-clause-done g c = λ o rows spread s.
    let dead = c.in-Some.ensures.dead in
    let has : Has c.args.store.now.index c.in-Some.mixed c.args.at = subst (λ m. Has c.args.store.now.index m c.args.at) (sym dead.3) (s.found.known c.args.at dead.0 dead.1) in
    let post = c.in_default-find.ensures.absent c.args.at has in
    let fails : (c.args.at == c.args.at) ≡ false = search (rules, post) in
    absurd (true≢false (sym (eq-eqb c.args.at c.args.at refl) ∙ fails))
