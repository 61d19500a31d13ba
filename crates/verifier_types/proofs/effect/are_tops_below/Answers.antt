use Rattle.std.proofs.Common.{sym, ◌∙◌}
use Rattle.verifier_types.proofs.PassedLemmas.{left_more, left_fails}
use Rattle.verifier_types.proofs.effect.are_tops_below.Goals as goal

pub returns-then-not-is_top_below : goal.returns-then-not-is_top_below
returns-then-not-is_top_below g c =
    sym (c.loop-above.invariant ∙ left_fails c.args.shape.now.kinds c.args.arguments.now c.loop-above.above _ c.loop-above-test.true _ _ c.kind.ensures c.is_top_below.ensures c.if-not-is_top_below.true)

pub loop-above-preserved : goal.loop-above-preserved
loop-above-preserved g c =
    c.loop-above.invariant ∙ left_more c.args.shape.now.kinds c.args.arguments.now c.loop-above.above _ c.loop-above-test.true _ _ c.kind.ensures c.is_top_below.ensures c.if-not-is_top_below.false
