use Rattle.std.proofs.Common.{rules}
use Rattle.std.specs.Str.{chars}
use Rattle.std.proofs.lemmas.Result.{err_from_is_err_and}
use Rattle.term_text.specs.Reading.{separated, segment_at}
use Rattle.term_text.proofs.Steps.{ends, goes_on, is_done}
use Rattle.term_text.proofs.Sound.{segment_shrinks}
use Rattle.term_text.proofs.Readers.{item_fails, item_is}
use Rattle.term_text.proofs.leaf.segments.Goals as goal

pub returns-in_err-more : goal.returns-in_err-more
returns-in_err-more g c =
    let p = err_from_is_err_and c.from_residual.result c.from_residual.ensures.1 in
    rw (p.1, p.2) (ends (separated segment_at) segment_shrinks _ c.loop-more.bytes.items (chars c.loop-more.rest.now) _ (item_fails _ segment_at c.loop-more.bytes.items (chars c.loop-more.rest.now) c.in_err-more.ensures) c.loop-more.invariant.1)

pub returns-then-not-goes_on : goal.returns-then-not-goes_on
returns-then-not-goes_on g c =
    let one = item_is segment_at c.loop-more.bytes.items c.in_ok-more.more.items (chars c.loop-more.rest.now) (chars c.in_ok-more.after.now) c.after_comma-goes_on.result.0 (chars c.after_comma-goes_on.result.1.now) c.in_ok-more.ensures c.after_comma-goes_on.ensures in
    is_done (separated segment_at) segment_shrinks c.loop-more.bytes.items c.in_ok-more.more.items (chars c.loop-more.rest.now) (chars c.after_comma-goes_on.result.1.now) _ (rw c.if-not-goes_on.true at one) c.loop-more.invariant.1

pub loop-more-smaller : goal.loop-more-smaller
loop-more-smaller g c =
    let one = item_is segment_at c.loop-more.bytes.items c.in_ok-more.more.items (chars c.loop-more.rest.now) (chars c.in_ok-more.after.now) c.after_comma-goes_on.result.0 (chars c.after_comma-goes_on.result.1.now) c.in_ok-more.ensures c.after_comma-goes_on.ensures in
    segment_shrinks.shorter c.loop-more.bytes.items (chars c.loop-more.rest.now) _ one c.if-not-goes_on.false

pub loop-more-preserved : goal.loop-more-preserved
loop-more-preserved g c =
    let one = item_is segment_at c.loop-more.bytes.items c.in_ok-more.more.items (chars c.loop-more.rest.now) (chars c.in_ok-more.after.now) c.after_comma-goes_on.result.0 (chars c.after_comma-goes_on.result.1.now) c.in_ok-more.ensures c.after_comma-goes_on.ensures in
    (search rules, goes_on (separated segment_at) segment_shrinks c.loop-more.bytes.items c.in_ok-more.more.items (chars c.loop-more.rest.now) (chars c.after_comma-goes_on.result.1.now) _ (rw c.if-not-goes_on.false at one) c.loop-more.invariant.1)
