use Rattle.std.proofs.Common.{rules, ap, ◌∙◌, length}
use Rattle.std.specs.Prelude.{filter}
use Rattle.part_hash.proofs.AddLemmas.{base_some}
use Rattle.part_hash.proofs.SortLemmas.{is_made}
use Rattle.part_hash.proofs.ClassLemmas.{rows_of_class}
use Rattle.part_hash.proofs.looking.places_of_class.Goals as goal

pub returns : goal.returns
returns g c = λ rows s.
    rows_of_class c.args.base c.args.class s c.requires.parts c.requires.base (base_some (length c.args.store.now.slots.items) (search rules)) c.sort.new.places.items c.in_ok-sort.ensures.rising (λ n. c.in_ok-sort.ensures.same n ∙ ap (filter (is_made n)) c.in_ok-places.ensures)
