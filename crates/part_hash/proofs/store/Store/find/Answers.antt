use Rattle.std.proofs.Common.{rules, ◌≡◌, sym, subst}
use Rattle.std.specs.Prelude.{true, false}
use Rattle.std.specs.Option.{option_map_or}
use Rattle.slab.specs.Slab.{get}
use Rattle.term_operand.specs.Order.{is_same}
use Rattle.hash_index.specs.Index.{Has}
use Rattle.part_hash.specs.Places.{Kept}
use Rattle.part_hash.proofs.StandLemmas.{none_found, row_found}
use Rattle.part_hash.proofs.store.Store.find.Goals as goal

pub returns-in-Some-clause-found : goal.returns-in-Some-clause-found
returns-in-Some-clause-found g c = λ o rows s.
    let post = c.in-Some.ensures.found.1 in
    let holds : option_map_or (λ (r : Kept). is_same c.args.key.now r.0.0) (get c.args.self.now.rows c.in-Some.at) false ≡ true = search (rules, post) in
    row_found c.args.self.now.rows c.args.self.now.index c.args.self.now.seed rows s.list c.args.key.now c.in-Some.at s.are s.placed.stands s.found holds

pub returns-in-None-clause-found : goal.returns-in-None-clause-found
returns-in-None-clause-found g c = λ o rows s.
    none_found c.args.self.now.rows c.args.self.now.index c.args.self.now.seed rows s.list c.args.key.now s.are s.placed.stands s.found
    (λ at there. let post = c.in-None.ensures.absent at (subst (λ m. Has c.args.self.now.index m at) (sym c.requires) there) in search (rules, post))
