use Rattle.std.proofs.Common.{◌≡◌, [], false, refl, rules}
use Rattle.std.specs.Str.{chars}
use Rattle.std.proofs.lemmas.Result.{err_from_is_err_and}
use Rattle.term_text.specs.TokenReading.{after_gap}
use Rattle.term_text.specs.Reading.{next_at, sentence_step}
use Rattle.term_text.proofs.Steps.{ends, goes_on, is_done}
use Rattle.term_text.proofs.Texts.{sentence_shrinks}
use Rattle.term_text.proofs.Readers.{no_sentence, text_fails, text_is, next_step_fails, next_step_is, next_nothing}
use Rattle.term_text.proofs.Stacks.{next_failed, next_was_pushed, next_was_none}
use Rattle.term_text.proofs.read.terms.Goals as goal

pub returns-in_err-after : goal.returns-in_err-after
returns-in_err-after g c =
    let p = err_from_is_err_and c.from_residual.result c.from_residual.ensures.1 in
    let failed = next_failed _ c.loop-terms.terms.items (next_at (chars c.loop-terms.rest.now)) c.in_err-after.ensures in
    rw (p.1, p.2) (text_fails _ (chars c.args.text.now) (ends sentence_step sentence_shrinks _ c.loop-terms.terms.items (after_gap false (chars c.loop-terms.rest.now)) _ (next_step_fails _ c.loop-terms.terms.items (chars c.loop-terms.rest.now) failed) c.loop-terms.invariant.1))

pub loop-terms-smaller : goal.loop-terms-smaller
loop-terms-smaller g c =
    let next = next_was_pushed c.loop-terms.terms.items (next_at (chars c.loop-terms.rest.now)) c.put_next.new.stack.items (chars c.in-Some.after.now) (rw c.in-Some.is at c.in_ok-after.ensures) in
    let one = next_step_is c.loop-terms.terms.items (chars c.loop-terms.rest.now) next.top (chars c.in-Some.after.now) next.read in
    sentence_shrinks.shorter c.loop-terms.terms.items (after_gap false (chars c.loop-terms.rest.now)) _ one refl

pub loop-terms-preserved : goal.loop-terms-preserved
loop-terms-preserved g c =
    let next = next_was_pushed c.loop-terms.terms.items (next_at (chars c.loop-terms.rest.now)) c.put_next.new.stack.items (chars c.in-Some.after.now) (rw c.in-Some.is at c.in_ok-after.ensures) in
    let one = next_step_is c.loop-terms.terms.items (chars c.loop-terms.rest.now) next.top (chars c.in-Some.after.now) next.read in
    (search rules, rw next.stack (goes_on sentence_step sentence_shrinks c.loop-terms.terms.items _ (after_gap false (chars c.loop-terms.rest.now)) _ _ one c.loop-terms.invariant.1))

pub returns-in_default : goal.returns-in_default
returns-in_default g c =
    let none = next_was_none c.loop-terms.terms.items (next_at (chars c.loop-terms.rest.now)) c.put_next.new.stack.items (rw c.in_default.is at c.in_ok-after.ensures) in
    let nothing : after_gap false (chars c.loop-terms.rest.now) ≡ [] = next_nothing (chars c.loop-terms.rest.now) none.read in
    rw none.stack (text_is (chars c.args.text.now) c.loop-terms.terms.items [] (is_done sentence_step sentence_shrinks c.loop-terms.terms.items c.loop-terms.terms.items (after_gap false (chars c.loop-terms.rest.now)) [] _ (no_sentence c.loop-terms.terms.items _ (rw nothing refl)) c.loop-terms.invariant.1))
