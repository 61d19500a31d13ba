use Rattle.std.proofs.Common.{option_map, sym, ◌∙◌, ap}
use Rattle.std.proofs.lemmas.Result.{IfOk-weaker}
use Rattle.term_core.specs.Datum.{entries_of}
use Rattle.term_core.specs.Datum.Datum.{map}
use Rattle.term_build.proofs.ByKeyLemmas.{by_key-rising}
use Rattle.term_core.proofs.MapLemmas.{apart-no_twin, apart_from_rising}
use Rattle.mspec_meaning.specs.Made.{made, made_of, or_failed}
use Rattle.mspec_meaning.proofs.environment.Environment.map.Goals as goal

pub make_map-requires : goal.make_map-requires
make_map-requires g c =
    let rising = rw c.in-Some.is at c.requires in
    apart-no_twin c.in-Some.pairs.items (apart_from_rising c.in-Some.pairs.items rising)

pub returns-in_ok-make_map-in-Some : goal.returns-in_ok-make_map-in-Some
returns-in_ok-make_map-in-Some g c =
    let rising = rw c.in-Some.is at c.requires in
    IfOk-weaker c.or_failure.result _ _
    (λ v h.
    h ∙ ap (or_failed c.args.self.now.mode) c.in_ok-make_map-in-Some.ensures
    ∙ ap (λ l. made c.args.self.now.mode (map (entries_of l))) (by_key-rising c.in-Some.pairs.items rising)
    ∙ sym (ap (λ x. made_of c.args.self.now.mode (option_map map (option_map (λ p. entries_of p.items) x))) c.in-Some.is))
    c.or_failure.ensures
