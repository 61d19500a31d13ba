use Rattle.std.proofs.Common.{refl, sym, ap₂, ◌∙◌, arith}
use Rattle.std.specs.Ordering.{is_ge}
use Rattle.term_core.specs.Order.{datum_cmp}
use Rattle.term_core.proofs.MapLemmas.{falls-not_rising, rising_from_adjacent, rising_more}
use Rattle.term_core.proofs.term.pairs.is_rising.Goals as goal

pub returns-then-ge : goal.returns-then-ge
returns-then-ge g c =
    (λ never. absurd (cc), λ up. absurd (falls-not_rising c.args.pairs.now c.loop-later.later _ _ c.loop-later.auto.later c.loop-later-test.true c.index-pairs-later.is c.index-pairs-later-in-loop-later.is (ap₂ (λ p q. is_ge (datum_cmp p.0 q.0)) c.index-pairs-later.is c.index-pairs-later-in-loop-later.is ∙ sym c.ge.ensures ∙ c.if-ge.true) up))

pub loop-later-preserved : goal.loop-later-preserved
loop-later-preserved g c =
    rising_more c.args.pairs.now c.loop-later.later _ _ c.loop-later.auto.later c.loop-later-test.true c.index-pairs-later.is c.index-pairs-later-in-loop-later.is c.loop-later.invariant (ap₂ (λ p q. is_ge (datum_cmp p.0 q.0)) c.index-pairs-later.is c.index-pairs-later-in-loop-later.is ∙ sym c.ge.ensures ∙ c.if-ge.false)

pub returns : goal.returns
returns g c = (λ _. rising_from_adjacent c.args.pairs.now (λ k d l. c.loop-later.invariant k d (omega arith)), λ _. refl)
