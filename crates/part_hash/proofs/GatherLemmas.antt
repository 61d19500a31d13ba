-- The objects of rows, class by class.
use Rattle.std.proofs.Common.{◌≡◌, ℕ, ◌<◌, ◌+◌, List, [], ◌∷◌, ◌++◌, refl, ap, sym, ◌∙◌, length, take, get_or, append_assoc}
use Rattle.std.specs.Prelude.{Option, None, Some}
use Rattle.std.specs.Option.{option_map_or}
use Rattle.std.proofs.lemmas.List.{append-nil, take_more}
use Rattle.std.proofs.lemmas.List.Concat.{flat_map-append}
use Rattle.std.proofs.lemmas.List.Elements.{filter_map-append}
use Rattle.slab.specs.Slab.{Slab}
use Rattle.term_core.specs.Datum.{Datum}
use Rattle.part_core.specs.Rows.{Row}
use Rattle.part_rows.specs.declared.place.Place.{Place}
use Rattle.part_hash.specs.Places.{Kept, row_of, rows_of}
use Rattle.part_engine.proofs.WalkLemmas.{all_objects}

-- ---- the rows at places

single : (slab : Slab Kept) (p : Place) → all_objects (rows_of slab (p ∷ [])) ≡ option_map_or (λ (r : Row). r.1) (row_of slab p) []
single slab p = of (row_of slab p) refl
  where
    of : (found : Option Row) → row_of slab p ≡ found → all_objects (rows_of slab (p ∷ [])) ≡ option_map_or (λ (r : Row). r.1) found []
    of None is = rw is refl
    of (Some r) is = rw is (append-nil r.1)

pub objects_more : (slab : Slab Kept) (ps : List Place) (i : ℕ) (p : Place) (before after initial : List Datum) → i < length ps → p ≡ get_or ps i p → before ≡ initial ++ all_objects (rows_of slab (take i ps)) → after ≡ before ++ option_map_or (λ (r : Row). r.1) (row_of slab p) [] → after ≡ initial ++ all_objects (rows_of slab (take (i + 1) ps))
objects_more slab ps i p before after initial within is so_far more =
    let own : List Datum = option_map_or (λ (r : Row). r.1) (row_of slab p) [] in
    more ∙ ap (λ os. os ++ own) so_far
    ∙ append_assoc initial (all_objects (rows_of slab (take i ps))) own
    ∙ ap (λ os. initial ++ os) (ap (λ os. all_objects (rows_of slab (take i ps)) ++ os) (sym (single slab p)) ∙ sym (flat_map-append (λ (r : Row). r.1) (rows_of slab (take i ps)) (rows_of slab (p ∷ []))) ∙ ap all_objects (sym (filter_map-append (row_of slab) (take i ps) (p ∷ []))))
    ∙ ap (λ q. initial ++ all_objects (rows_of slab (take i ps ++ q ∷ []))) is
    ∙ ap (λ qs. initial ++ all_objects (rows_of slab qs)) (sym (take_more ps i p within))
