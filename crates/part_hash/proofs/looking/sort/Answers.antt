use Rattle.std.proofs.Common.{rules, ◌≡◌, sym, ◌∙◌}
use Rattle.std.specs.Prelude.{Bool, not, ◌&&◌}
use Rattle.std.specs.Ordering.{is_lt, nat_cmp}
use Rattle.std.proofs.lemmas.List.Elements.{filter_agree}
use Rattle.std.proofs.lemmas.List.Sorted.{IsNonDecreasingBy-from_sort_by_key, answers_always}
use Rattle.part_rows.specs.declared.place.Place.{Place}
use Rattle.part_hash.proofs.SortLemmas.{is_made, ties_made}
use Rattle.part_hash.proofs.looking.sort.Goals as goal

pub returns-clause-rising : goal.returns-clause-rising
returns-clause-rising g c = IsNonDecreasingBy-from_sort_by_key (λ (p : Place). p.made) _ c.in_ok-sort_by_key.ensures.sorted (λ a r q k. search rules)

pub returns-clause-same : goal.returns-clause-same
returns-clause-same g c = λ n.
    let tie : Place → Bool = λ p. not (is_lt (nat_cmp n p.made)) && not (is_lt (nat_cmp p.made n)) in
    let same : (p : Place) → is_made n p ≡ tie p = λ p. sym (ties_made n p.made) in
    filter_agree (is_made n) tie same c.sort_by_key.new.self.items
    ∙ c.in_ok-sort_by_key.ensures.stable (λ (p : Place). p.made) (answers_always _ _ _ (λ f a r h k. search rules)) (record { made = n; at = 0; low = 0 })
    ∙ sym (filter_agree (is_made n) tie same c.args.places.now.items)
