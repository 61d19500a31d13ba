use Rattle.std.proofs.Common.{refl, sym, ◌∙◌, arith}
use Rattle.term_core.proofs.MapLemmas.{apart_from_neighbours, differ_more, tied-not_apart}
use Rattle.term_core.proofs.term.pairs.neighbours_differ.Goals as goal

pub returns-then-eq : goal.returns-then-eq
returns-then-eq g c =
    (λ never. absurd (cc), λ apart. absurd (tied-not_apart c.args.terms.now c.loop-later.later _ _ c.loop-later.auto.later c.loop-later-test.true c.index-terms-later.is c.index-terms-later-in-loop-later.is (sym c.eq.ensures ∙ c.if-eq.true) apart))

pub loop-later-preserved : goal.loop-later-preserved
loop-later-preserved g c =
    differ_more c.args.terms.now c.loop-later.later _ _ c.loop-later.auto.later c.loop-later-test.true c.index-terms-later.is c.index-terms-later-in-loop-later.is c.loop-later.invariant (sym c.eq.ensures ∙ c.if-eq.false)

pub returns : goal.returns
returns g c = (λ _. apart_from_neighbours c.args.terms.now c.requires (λ k d l. c.loop-later.invariant k d (omega arith)), λ _. refl)
