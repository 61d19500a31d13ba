use Rattle.std.proofs.Common.{◌≡◌, true, [], ◌∷◌, refl, ap, ◌∙◌}
use Rattle.std.specs.Prelude.{pos}
use Rattle.term_core.specs.Datum.Datum.{integer}
use Rattle.term_core.specs.MapPairs.{are_apart}
use Rattle.term_core.specs.Order.{datum_cmp}
use Rattle.term_build.proofs.ByKeyLemmas.{apart_from_are_apart}
use Rattle.judge_language.proofs.constructors.mapped.Goals as goal

three_apart : are_apart (integer (pos 3) ∷ integer (pos 1) ∷ integer (pos 2) ∷ []) ≡ true
unfolding datum_cmp
three_apart = refl

pub make_map-requires : goal.make_map-requires
make_map-requires g c = apart_from_are_apart c.in_ok-pairs.pairs.items (ap are_apart c.in_ok-pairs.ensures ∙ three_apart)
