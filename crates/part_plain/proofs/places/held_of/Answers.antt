use Rattle.std.proofs.Common.{Some, List, ap, ◌∙◌}
use Rattle.term_core.specs.Datum.{Datum}
use Rattle.part_core.specs.Rows.{Row}
use Rattle.part_plain.proofs.PlaceLemmas.{place_held}
use Rattle.part_plain.proofs.places.held_of.Goals as goal

pub returns-in-Some : goal.returns-in-Some
returns-in-Some g c =
    ap (λ (os : List Datum). Some os) c.held.ensures ∙ ap (λ (r : Row). Some r.1) c.index-rows-place.is
    ∙ place_held c.index-rows-place.result c.in-Some.ensures
