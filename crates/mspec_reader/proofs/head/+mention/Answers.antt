use Rattle.std.proofs.Common.{ap, arith}
use Rattle.std.specs.Option.{option_copied}
use Rattle.mspec_syntax.specs.Sought.{is_sought}
use Rattle.term_core.proofs.DepthLemmas.{items_depth-at, entries_depth-at, elements-fall, tail-falls}
use Rattle.mspec_reader.proofs.GrammarLemmas.{mentions-proper, mentions-in_elements, mentions-in_tail}
use Rattle.mspec_reader.proofs.head.+mention.Goals as goal

pub any_mentions-mentions-requires : goal.any_mentions-mentions-requires
any_mentions-mentions-requires g t c κs within =
    (omega (arith, items_depth-at _ _ _ c.loop-term-test.true c.term-item.is, c.decreases), within)

pub any_pair_mentions-mentions-requires : goal.any_pair_mentions-mentions-requires
any_pair_mentions-mentions-requires g t c κs within =
    let p = entries_depth-at _ _ _ c.loop-key-test.true c.loop-key-item.is in (omega (arith, p.0, c.decreases), within)

pub any_pair_mentions-mentions-requires-else-mentions :
    goal.any_pair_mentions-mentions-requires-else-mentions
any_pair_mentions-mentions-requires-else-mentions g t c κs within =
    let p = entries_depth-at _ _ _ c.loop-key-test.true c.loop-key-item.is in (omega (arith, p.1, c.decreases), within)

pub mentions-any_mentions-requires-in-List-default-None :
    goal.mentions-any_mentions-requires-in-List-default-None
mentions-any_mentions-requires-in-List-default-None g t c κs within =
    let arm = c.in-List-default-None in
    (omega (arith, elements-fall arm.elements.now (option_copied arm.field-1) _ arm.ensures.value arm.ensures.split.0, c.decreases), within)

pub mentions-any_mentions-requires-in-List-default-Some :
    goal.mentions-any_mentions-requires-in-List-default-Some
mentions-any_mentions-requires-in-List-default-Some g t c κs within =
    let arm = c.in-List-default-Some in
    (omega (arith, elements-fall arm.elements.now (option_copied arm.field-1) _ arm.ensures.value arm.ensures.split.0, c.decreases), within)

pub mentions-mentions-requires : goal.mentions-mentions-requires
mentions-mentions-requires g t c κs within =
    let arm = c.in-List-default-Some in
    (omega (arith, tail-falls arm.elements.now (option_copied arm.field-1) _ _ (ap option_copied arm.field-1-is) arm.ensures.value arm.ensures.split.0 arm.ensures.split.1, c.decreases), within)

pub mentions-returns-in-List-default-None : goal.mentions-returns-in-List-default-None
mentions-returns-in-List-default-None g t c =
    let arm = c.in-List-default-None in
    mentions-proper (is_sought c.args.sought) arm.elements.now (option_copied arm.field-1) _ _ (ap option_copied arm.field-1-is) arm.ensures.value c.any_mentions-in-List-default-None.ensures

pub mentions-returns-then-any_mentions : goal.mentions-returns-then-any_mentions
mentions-returns-then-any_mentions g t c =
    let arm = c.in-List-default-Some in
    mentions-in_elements (is_sought c.args.sought) arm.elements.now (option_copied arm.field-1) _ _ arm.ensures.value c.any_mentions-in-List-default-Some.ensures c.if-any_mentions.true

pub mentions-returns-else-any_mentions : goal.mentions-returns-else-any_mentions
mentions-returns-else-any_mentions g t c =
    let arm = c.in-List-default-Some in
    mentions-in_tail (is_sought c.args.sought) arm.elements.now (option_copied arm.field-1) _ _ _ _ (ap option_copied arm.field-1-is) arm.ensures.value c.any_mentions-in-List-default-Some.ensures c.if-any_mentions.false c.mentions.ensures
