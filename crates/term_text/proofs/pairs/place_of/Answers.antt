use Rattle.std.proofs.Common.{sym, ap, ◌∙◌, ◌-◌, arith}
use Rattle.term_core.specs.Order.{datum_cmp}
use Rattle.term_text.proofs.Places.{place_behind, place_first, found_there, below_more, nothing_below, place_zero}
use Rattle.term_text.proofs.pairs.place_of.Goals as goal

pub loop-i-init : goal.loop-i-init
loop-i-init g c = nothing_below c.args.key.now c.args.pairs.now

pub returns-in-Greater : goal.returns-in-Greater
returns-in-Greater g c = place_behind c.args.key.now c.args.pairs.now c.loop-i.i c.index-pairs-i.result c.requires (omega (arith, c.loop-i-test.true)) (omega (arith, c.loop-i-test.true)) c.index-pairs-i.is (ap (λ p. datum_cmp c.args.key.now p.0) c.index-pairs-i.is ∙ sym c.cmp.ensures ∙ c.in-Greater.is) c.loop-i.invariant

pub returns-in-Equal : goal.returns-in-Equal
returns-in-Equal g c = found_there c.args.key.now c.args.pairs.now (c.loop-i.i - 1) c.index-pairs-i.result (omega (arith, c.loop-i-test.true)) c.index-pairs-i.is (ap (λ p. datum_cmp c.args.key.now p.0) c.index-pairs-i.is ∙ sym c.cmp.ensures ∙ c.in-Equal.is)

pub loop-i-preserved : goal.loop-i-preserved
loop-i-preserved g c = below_more c.args.key.now c.args.pairs.now c.loop-i.i c.index-pairs-i.result (omega (arith, c.loop-i-test.true)) (omega (arith, c.loop-i-test.true)) c.index-pairs-i.is (ap (λ p. datum_cmp c.args.key.now p.0) c.index-pairs-i.is ∙ sym c.cmp.ensures ∙ c.in-Less.is)

pub returns : goal.returns
returns g c = place_first c.args.key.now c.args.pairs.now c.requires (place_zero c.args.key.now c.args.pairs.now c.loop-i.i (omega (arith, c.loop-i-test.false)) c.loop-i.invariant)
