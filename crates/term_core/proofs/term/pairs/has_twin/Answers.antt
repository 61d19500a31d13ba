use Rattle.std.proofs.Common.{◌≡◌, Bool, true, false, not, refl, sym, true≢false}
use Rattle.term_core.proofs.MapLemmas.{twice_from_keys, no_twin_from_keys}
use Rattle.term_core.proofs.term.pairs.has_twin.Goals as goal

negated : (t : Bool) {P Q : Type 0} → (t ≡ true → P) × (P → t ≡ true) → (¬ P → Q) → (P → ¬ Q) → (not t ≡ true → Q) × (Q → not t ≡ true)
negated true says f g = (λ e. absurd (true≢false (sym e)), λ q. absurd (g (says.0 refl) q))
negated false says f g = (λ _. f (λ p. true≢false (sym (says.1 p))), λ _. refl)

pub returns : goal.returns
returns g c =
    let es = c.args.pairs.now in
    let xs = c.in_ok-keys.keys.items in
    let ys = c.sort_unstable.new.self.items in
    let moved = c.sort_unstable.ensures.permutation in
    let same = c.in_ok-keys.ensures in
    negated c.neighbours_differ.result (rw c.as_slice.ensures.value at c.neighbours_differ.ensures) (twice_from_keys es xs ys same moved) (no_twin_from_keys es xs ys same moved)
