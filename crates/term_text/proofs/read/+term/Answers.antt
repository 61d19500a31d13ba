use Rattle.std.proofs.Common.{◌≡◌, ◌-◌, ◌≤◌, ◌<◌, true, false, [], ◌∷◌, ◌++◌, length, take, drop, refl, sym, ◌∙◌, arith, rules}
use Rattle.std.specs.Str.{chars}
use Rattle.std.proofs.lemmas.Result.{err_from_is_err_and}
use Rattle.term_core.specs.Datum.{items_of, entries_of, cells}
use Rattle.term_core.specs.Datum.Datum.{tuple, nil}
use Rattle.term_core.specs.MapPairs.{AreRising}
use Rattle.term_core.specs.declared.TheConstants.{MAX_MAP}
use Rattle.term_text.specs.Reading.{AreElements, IsPlace, separated, pair_at, has_key, elements_at, form_at, term_at, tail_at}
use Rattle.term_text.proofs.Steps.{ends, goes_on, is_done}
use Rattle.term_text.proofs.Sound.{term_holds, pair_shrinks}
use Rattle.term_text.proofs.Keys.{put_rises}
use Rattle.term_text.proofs.Readers.{bind_fails, term_fails, term_is, tail_fails, tail_is, tail_form_is, item_fails, item_is, has_key-lookup, pair_twice, pair_no_arrow, pair_no_value, pair_is}
use Rattle.term_text.proofs.Within.{list_within}
use Rattle.term_text.proofs.Constructed.{elements_are, tuple_within, map_within, tail_within}
use Rattle.term_text.proofs.Short.{tuple_stops, tuple_unclosed, tuple_closed, list_closes, pair_stops, pair_more}
use Rattle.term_text.proofs.Stacks.{push_fails, pushed_fails, was_pushed, put_is, all_of, none_behind, stack_stops, stack_more, taken_again, some_pushed}
use Rattle.term_text.proofs.read.+term.Goals as goal

pub any_term-returns-in_err-opening : goal.any_term-returns-in_err-opening
any_term-returns-in_err-opening g t c =
    let p = err_from_is_err_and c.from_residual.result c.from_residual.ensures.1 in
    rw (p.1, p.2) (push_fails _ c.args.stack.now.items _ (term_fails _ c.args.levels c.args.room (chars c.args.text.now) c.in_err-opening.ensures.value))

pub any_term-returns-in-Some : goal.any_term-returns-in-Some
any_term-returns-in-Some g t c = rw c.in-Some.ensures.rest c.tuple.ensures

pub any_term-returns : goal.any_term-returns
any_term-returns g t c =
    rw (term_is c.args.levels c.args.room (chars c.args.text.now) (chars c.in_ok-opening.rest.now) c.in_ok-opening.opening c.in_ok-opening.ensures.value) c.form.ensures

pub elements-returns-in_err-after : goal.elements-returns-in_err-after
elements-returns-in_err-after g t c =
    let room : c.saturating_sub-room.result ≡ c.args.limit - (length c.loop-after.stack.items - c.args.base) = omega arith in
    let stops = stack_stops c.args.levels c.args.limit c.args.base c.loop-after.stack.items (chars c.loop-after.rest.now) _ c.loop-after.invariant.1.1.1 c.loop-after.invariant.1.0 c.saturating_sub-room.result room _ c.in_err-after.ensures in
    search (rules, stops)

pub elements-returns-then-not-goes_on : goal.elements-returns-then-not-goes_on
elements-returns-then-not-goes_on g t c =
    let room : c.saturating_sub-room.result ≡ c.args.limit - (length c.loop-after.stack.items - c.args.base) = omega arith in
    let one = stack_more c.args.levels c.args.limit c.args.base c.loop-after.stack.items (chars c.loop-after.rest.now) _ c.loop-after.invariant.1.1.1 c.loop-after.invariant.1.0 c.saturating_sub-room.result room c.term.new.stack.items (chars c.in_ok-after.after.now) c.after_comma-goes_on.result.0 (chars c.after_comma-goes_on.result.1.now) c.in_ok-after.ensures c.after_comma-goes_on.ensures in
    record { value = sym (rw c.if-not-goes_on.true at one.more); front = one.front ∙ c.loop-after.invariant.1.1.0; base = one.within }

pub elements-loop-after-smaller : goal.elements-loop-after-smaller
elements-loop-after-smaller g t c =
    let room : c.saturating_sub-room.result ≡ c.args.limit - (length c.loop-after.stack.items - c.args.base) = omega arith in
    let one = stack_more c.args.levels c.args.limit c.args.base c.loop-after.stack.items (chars c.loop-after.rest.now) _ c.loop-after.invariant.1.1.1 c.loop-after.invariant.1.0 c.saturating_sub-room.result room c.term.new.stack.items (chars c.in_ok-after.after.now) c.after_comma-goes_on.result.0 (chars c.after_comma-goes_on.result.1.now) c.in_ok-after.ensures c.after_comma-goes_on.ensures in
    one.shorter c.if-not-goes_on.false

pub elements-loop-after-preserved : goal.elements-loop-after-preserved
elements-loop-after-preserved g t c =
    let room : c.saturating_sub-room.result ≡ c.args.limit - (length c.loop-after.stack.items - c.args.base) = omega arith in
    let one = stack_more c.args.levels c.args.limit c.args.base c.loop-after.stack.items (chars c.loop-after.rest.now) _ c.loop-after.invariant.1.1.1 c.loop-after.invariant.1.0 c.saturating_sub-room.result room c.term.new.stack.items (chars c.in_ok-after.after.now) c.after_comma-goes_on.result.0 (chars c.after_comma-goes_on.result.1.now) c.in_ok-after.ensures c.after_comma-goes_on.ensures in
    (search rules, (one.within, (one.front ∙ c.loop-after.invariant.1.1.0, rw c.if-not-goes_on.false at one.more)))

pub tuple-returns-in_err-after : goal.tuple-returns-in_err-after
tuple-returns-in_err-after g t c =
    let failed = rw (c.after_gap-text.ensures, none_behind c.len-base.result c.args.stack.now.items (omega arith)) at c.in_err-after.ensures.value in
    let stops = push_fails _ c.args.stack.now.items _ (tuple_stops (term_at c.args.levels) (chars c.args.text.now) (rw c.after_gap-text.ensures at c.in_default.ensures) _ failed) in
    search (rules, stops)

pub tuple-returns-in_err-rest : goal.tuple-returns-in_err-rest
tuple-returns-in_err-rest g t c =
    let whole = rw (c.after_gap-text.ensures, none_behind c.len-base.result c.args.stack.now.items (omega arith)) at c.in_ok-after.ensures.value in
    let stops = push_fails _ c.args.stack.now.items _ (tuple_unclosed (term_at c.args.levels) (chars c.args.text.now) (rw c.after_gap-text.ensures at c.in_default.ensures) _ (drop c.len-base.result c.elements.new.stack.items) (chars c.in_ok-after.after.now) whole c.in_err-rest.ensures) in
    search (rules, stops)

pub tuple-put_tuple-requires : goal.tuple-put_tuple-requires
tuple-put_tuple-requires g t c =
    let whole = rw (c.after_gap-text.ensures, none_behind c.len-base.result c.args.stack.now.items (omega arith)) at c.in_ok-after.ensures.value in
    record {
      base = c.in_ok-after.ensures.base;
      within = tuple_within c.args.levels (chars c.args.text.now) (drop c.len-base.result c.elements.new.stack.items) (chars c.in_ok-after.after.now) (chars c.in_ok-rest.rest.now) (omega arith) whole c.in_ok-rest.ensures;
    }

pub tuple-returns : goal.tuple-returns
tuple-returns g t c =
    let whole = rw (c.after_gap-text.ensures, none_behind c.len-base.result c.args.stack.now.items (omega arith)) at c.in_ok-after.ensures.value in
    let same = c.in_ok-after.ensures.front ∙ all_of c.len-base.result c.args.stack.now.items (omega arith) in
    put_is c.args.stack.now.items _ (tuple (items_of (drop c.len-base.result c.elements.new.stack.items))) c.put_tuple.new.stack.items (chars c.in_ok-rest.rest.now)
    (tuple_closed (term_at c.args.levels) (chars c.args.text.now) (rw c.after_gap-text.ensures at c.in_default.ensures) (drop c.len-base.result c.elements.new.stack.items) (chars c.in_ok-after.after.now) (chars c.in_ok-rest.rest.now) _ whole c.in_ok-rest.ensures refl)
    (rw same at c.in_ok-put_tuple.ensures)

pub pair-returns-then-contains_key-clause-value : goal.pair-returns-then-contains_key-clause-value
pair-returns-then-contains_key-clause-value g t c =
    let room : c.saturating_sub-room.result ≡ MAX_MAP - length c.args.pairs.entries = omega arith in
    let twice : has_key c.in_ok-key.key c.args.pairs.entries ≡ true = sym (has_key-lookup c.in_ok-key.key c.args.pairs.entries) ∙ sym c.contains_key.ensures ∙ c.if-contains_key.true in
    rw c.stop.ensures (pair_twice (term_at c.args.levels) c.saturating_sub-room.result c.args.pairs.entries (chars c.args.text.now) c.in_ok-key.key (chars c.in_ok-key.rest.now) room c.in_ok-key.ensures.value twice)

pub pair-returns-in_err-rest-clause-value : goal.pair-returns-in_err-rest-clause-value
pair-returns-in_err-rest-clause-value g t c =
    let p = err_from_is_err_and c.from_residual-in_err-rest.result c.from_residual-in_err-rest.ensures.1 in
    let room : c.saturating_sub-room.result ≡ MAX_MAP - length c.args.pairs.entries = omega arith in
    let fresh : has_key c.in_ok-key.key c.args.pairs.entries ≡ false = sym (has_key-lookup c.in_ok-key.key c.args.pairs.entries) ∙ sym c.contains_key.ensures ∙ c.if-contains_key.false in
    rw (p.1, p.2) (pair_no_arrow (term_at c.args.levels) c.saturating_sub-room.result c.args.pairs.entries (chars c.args.text.now) c.in_ok-key.key (chars c.in_ok-key.rest.now) room c.in_ok-key.ensures.value _ fresh (rw c.after_gap.ensures at c.in_err-rest.ensures))

pub pair-returns-in_err-value-clause-value : goal.pair-returns-in_err-value-clause-value
pair-returns-in_err-value-clause-value g t c =
    let p = err_from_is_err_and c.from_residual-in_err-value.result c.from_residual-in_err-value.ensures.1 in
    let room : c.saturating_sub-room.result ≡ MAX_MAP - length c.args.pairs.entries = omega arith in
    let fresh : has_key c.in_ok-key.key c.args.pairs.entries ≡ false = sym (has_key-lookup c.in_ok-key.key c.args.pairs.entries) ∙ sym c.contains_key.ensures ∙ c.if-contains_key.false in
    rw (p.1, p.2) (pair_no_value (term_at c.args.levels) c.saturating_sub-room.result c.args.pairs.entries (chars c.args.text.now) c.in_ok-key.key (chars c.in_ok-key.rest.now) room c.in_ok-key.ensures.value _ (chars c.in_ok-rest.rest.now) fresh
    (rw c.after_gap.ensures at c.in_ok-rest.ensures) (rw c.after_gap-2.ensures at c.in_err-value.ensures.value))

pub pair-returns-clause-value : goal.pair-returns-clause-value
pair-returns-clause-value g t c =
    let room : c.saturating_sub-room.result ≡ MAX_MAP - length c.args.pairs.entries = omega arith in
    let fresh : has_key c.in_ok-key.key c.args.pairs.entries ≡ false = sym (has_key-lookup c.in_ok-key.key c.args.pairs.entries) ∙ sym c.contains_key.ensures ∙ c.if-contains_key.false in
    rw c.in_ok-insert.ensures.entries (pair_is (term_at c.args.levels) c.saturating_sub-room.result c.args.pairs.entries (chars c.args.text.now) c.in_ok-key.key (chars c.in_ok-key.rest.now) room c.in_ok-key.ensures.value (chars c.in_ok-rest.rest.now) c.in_ok-value.value (chars c.in_ok-value.rest.now) fresh
    (rw c.after_gap.ensures at c.in_ok-rest.ensures) (rw c.after_gap-2.ensures at c.in_ok-value.ensures.value))

pub more_pairs-returns-in_err-more-clause-value : goal.more_pairs-returns-in_err-more-clause-value
more_pairs-returns-in_err-more-clause-value g t c =
    let p = err_from_is_err_and c.from_residual.result c.from_residual.ensures.1 in
    rw (p.1, p.2) (ends (separated (pair_at (term_at c.args.levels))) (pair_shrinks c.args.levels (term_at c.args.levels) (term_holds c.args.levels)) _ c.loop-more.pairs.entries (chars c.loop-more.rest.now) _ (item_fails _ (pair_at (term_at c.args.levels)) c.loop-more.pairs.entries (chars c.loop-more.rest.now) c.in_err-more.ensures.value) c.loop-more.invariant.1.1)

pub more_pairs-returns-then-not-goes_on-clause-value : goal.more_pairs-returns-then-not-goes_on-clause-value
more_pairs-returns-then-not-goes_on-clause-value g t c =
    let one = item_is (pair_at (term_at c.args.levels)) c.loop-more.pairs.entries c.in_ok-more.more.entries (chars c.loop-more.rest.now) (chars c.in_ok-more.after.now) c.after_comma-goes_on.result.0 (chars c.after_comma-goes_on.result.1.now) c.in_ok-more.ensures.value c.after_comma-goes_on.ensures in
    is_done (separated (pair_at (term_at c.args.levels))) (pair_shrinks c.args.levels (term_at c.args.levels) (term_holds c.args.levels)) c.loop-more.pairs.entries c.in_ok-more.more.entries (chars c.loop-more.rest.now) (chars c.after_comma-goes_on.result.1.now) _ (rw c.if-not-goes_on.true at one) c.loop-more.invariant.1.1

pub more_pairs-loop-more-smaller : goal.more_pairs-loop-more-smaller
more_pairs-loop-more-smaller g t c =
    let one = item_is (pair_at (term_at c.args.levels)) c.loop-more.pairs.entries c.in_ok-more.more.entries (chars c.loop-more.rest.now) (chars c.in_ok-more.after.now) c.after_comma-goes_on.result.0 (chars c.after_comma-goes_on.result.1.now) c.in_ok-more.ensures.value c.after_comma-goes_on.ensures in
    (pair_shrinks c.args.levels (term_at c.args.levels) (term_holds c.args.levels)).shorter c.loop-more.pairs.entries (chars c.loop-more.rest.now) _ one c.if-not-goes_on.false

pub more_pairs-loop-more-preserved : goal.more_pairs-loop-more-preserved
more_pairs-loop-more-preserved g t c =
    let one = item_is (pair_at (term_at c.args.levels)) c.loop-more.pairs.entries c.in_ok-more.more.entries (chars c.loop-more.rest.now) (chars c.in_ok-more.after.now) c.after_comma-goes_on.result.0 (chars c.after_comma-goes_on.result.1.now) c.in_ok-more.ensures.value c.after_comma-goes_on.ensures in
    (search rules, (c.in_ok-more.ensures.stack ∙ c.loop-more.invariant.1.0, goes_on (separated (pair_at (term_at c.args.levels))) (pair_shrinks c.args.levels (term_at c.args.levels) (term_holds c.args.levels)) c.loop-more.pairs.entries c.in_ok-more.more.entries (chars c.loop-more.rest.now) (chars c.after_comma-goes_on.result.1.now) _ (rw c.if-not-goes_on.false at one) c.loop-more.invariant.1.1))

pub few_pair-returns-clause-rising : goal.few_pair-returns-clause-rising
few_pair-returns-clause-rising g t c =
    let place : IsPlace c.in-Some.place c.in_ok-key.key c.args.few.now.items = rw c.as_slice.ensures.value at c.in-Some.ensures in
    let up : AreRising (entries_of c.args.few.now.items) = search rules in
    rw (c.in_ok-insert.ensures.items, place.put c.in_ok-value.value) (put_rises c.in_ok-key.key c.in_ok-value.value c.args.few.now.items up)

pub few_pairs-returns-in_err-after-clause-value : goal.few_pairs-returns-in_err-after-clause-value
few_pairs-returns-in_err-after-clause-value g t c =
    let so_far = rw c.if-not-goes_on.false at c.loop-read.invariant.1.1.1 in
    let stops = pair_stops c.args.levels c.loop-read.few.items (chars c.loop-read.rest.now) _ so_far _ c.in_err-after.ensures.value in
    search (rules, stops)

pub few_pairs-loop-read-preserved : goal.few_pairs-loop-read-preserved
few_pairs-loop-read-preserved g t c =
    let so_far = rw c.if-not-goes_on.false at c.loop-read.invariant.1.1.1 in
    (search rules, (c.in_ok-after.ensures.stack ∙ c.loop-read.invariant.1.0, (c.in_ok-after.ensures.rising, pair_more c.args.levels c.loop-read.few.items (chars c.loop-read.rest.now) _ so_far c.few_pair.new.few.items (chars c.in_ok-after.after.now) c.after_comma.result.0 (chars c.after_comma.result.1.now) c.in_ok-after.ensures.value c.after_comma.ensures)))

pub list_end-put_list-requires-clause-within : goal.list_end-put_list-requires-clause-within
list_end-put_list-requires-clause-within g t c = let h : AreElements (drop c.args.base c.args.stack.now.items) = search rules in list_within (drop c.args.base c.args.stack.now.items) h

pub list_end-returns-in_ok-put_list-in-Some : goal.list_end-returns-in_ok-put_list-in-Some
list_end-returns-in_ok-put_list-in-Some g t c =
    put_is (take c.args.base c.args.stack.now.items) _ (cells (drop c.args.base c.args.stack.now.items) nil) c.put_list.new.stack.items (chars c.in-Some.rest.now)
    (list_closes (tail_at c.args.levels) (drop c.args.base c.args.stack.now.items) (chars c.args.text.now) (chars c.in-Some.rest.now) _ c.in-Some.ensures refl) c.in_ok-put_list-in-Some.ensures

pub tail_end-put_rare_list-requires-clause-within : goal.tail_end-put_rare_list-requires-clause-within
tail_end-put_rare_list-requires-clause-within g t c = let h : AreElements (drop c.args.base c.args.stack.now.items) = search rules in list_within (drop c.args.base c.args.stack.now.items) h

pub map-map_of-requires-2-clause-within : goal.map-map_of-requires-2-clause-within
map-map_of-requires-2-clause-within g t c = map_within c.args.levels (chars c.args.text.now) c.in_ok-pairs.pairs.items (chars c.in_ok-pairs.rest.now) (chars c.in_ok-rest.rest.now) (omega arith) (rw c.after_gap-text.ensures at c.in_ok-pairs.ensures.value) c.in_ok-rest.ensures

pub more_of_list-put_rare_list-requires-clause-within : goal.more_of_list-put_rare_list-requires-clause-within
more_of_list-put_rare_list-requires-clause-within g t c = let h : AreElements (drop c.args.base c.args.stack.now.items) = search rules in list_within (drop c.args.base c.args.stack.now.items) h

pub more_of_list-list_end-requires : goal.more_of_list-list_end-requires
more_of_list-list_end-requires g t c κs within =
    let h : AreElements (drop c.args.base c.args.stack.now.items) = search rules in
    (omega arith, (within, (omega arith, (c.in_ok-after.ensures.base, elements_are c.args.levels (omega arith) (drop c.args.base c.args.stack.now.items) (chars c.after_gap-text.result.now) (drop c.args.base c.elements.new.stack.items) (chars c.in_ok-after.after.now) h c.in_ok-after.ensures.value))))

pub tail-returns-in_err-opening : goal.tail-returns-in_err-opening
tail-returns-in_err-opening g t c =
    let p = err_from_is_err_and c.from_residual.result c.from_residual.ensures.1 in
    rw (p.1, p.2) (push_fails _ (take c.args.base c.args.stack.now.items) _ (tail_fails _ c.args.levels (drop c.args.base c.args.stack.now.items) (chars c.args.text.now) c.in_err-opening.ensures.value))

pub tail-returns-in-String : goal.tail-returns-in-String
tail-returns-in-String g t c =
    let one = tail_is c.args.levels (drop c.args.base c.args.stack.now.items) (chars c.args.text.now) (chars c.in_ok-opening.rest.now) c.in_ok-opening.opening c.in_ok-opening.ensures.value in
    rw (one, c.in-String.is) c.string.ensures

pub tail-returns-in-List : goal.tail-returns-in-List
tail-returns-in-List g t c =
    let one = tail_is c.args.levels (drop c.args.base c.args.stack.now.items) (chars c.args.text.now) (chars c.in_ok-opening.rest.now) c.in_ok-opening.opening c.in_ok-opening.ensures.value in
    rw (one, c.in-List.is) c.more_of_list.ensures

pub tail-returns-in_err-rest-in_default : goal.tail-returns-in_err-rest-in_default
tail-returns-in_err-rest-in_default g t c =
    let p = err_from_is_err_and c.from_residual-in_err-rest-in_default.result c.from_residual-in_err-rest-in_default.ensures.1 in
    let one = tail_is c.args.levels (drop c.args.base c.args.stack.now.items) (chars c.args.text.now) (chars c.in_ok-opening.rest.now) c.in_ok-opening.opening c.in_ok-opening.ensures.value in
    let alone = tail_form_is (term_at (c.args.levels - 1)) (tail_at (c.args.levels - 1)) (c.args.levels - 1) (drop c.args.base c.args.stack.now.items) c.in_ok-opening.opening (chars c.in_ok-opening.rest.now) c.in_default.not-String c.in_default.not-List in
    let failed = pushed_fails _ c.args.stack.now.items (form_at (term_at (c.args.levels - 1)) (tail_at (c.args.levels - 1)) (c.args.levels - 1) c.in_ok-opening.opening (chars c.in_ok-opening.rest.now)) c.in_err-rest-in_default.ensures in
    rw (p.1, p.2, one, alone) (push_fails _ (take c.args.base c.args.stack.now.items) _ (bind_fails _ _ _ failed))

pub tail-put_list_with_tail-requires : goal.tail-put_list_with_tail-requires
tail-put_list_with_tail-requires g t c =
    let h : AreElements (drop c.args.base c.args.stack.now.items) = search rules in
    let base : c.args.base ≤ length c.args.stack.now.items = omega arith in
    let taken = taken_again c.args.stack.now.items (form_at (term_at (c.args.levels - 1)) (tail_at (c.args.levels - 1)) (c.args.levels - 1) c.in_ok-opening.opening (chars c.in_ok-opening.rest.now)) c.form.new.stack.items (chars c.in_ok-rest-in_default.rest.now) c.take_last-tail.new.self.items c.take_last-tail.result c.in_ok-rest-in_default.ensures c.take_last-tail.ensures.items in
    record {
      base = rw taken.stack base;
      within = rw taken.stack (tail_within c.args.levels (drop c.args.base c.args.stack.now.items) (chars c.args.text.now) c.in_ok-opening.opening (chars c.in_ok-opening.rest.now) c.take_last-tail.result (chars c.in_ok-rest-in_default.rest.now) (omega arith) h c.in_ok-opening.ensures.value c.in_default.not-String c.in_default.not-List taken.read);
    }

pub tail-returns-in_ok-put_list_with_tail-in_default : goal.tail-returns-in_ok-put_list_with_tail-in_default
tail-returns-in_ok-put_list_with_tail-in_default g t c =
    let taken = taken_again c.args.stack.now.items (form_at (term_at (c.args.levels - 1)) (tail_at (c.args.levels - 1)) (c.args.levels - 1) c.in_ok-opening.opening (chars c.in_ok-opening.rest.now)) c.form.new.stack.items (chars c.in_ok-rest-in_default.rest.now) c.take_last-tail.new.self.items c.take_last-tail.result c.in_ok-rest-in_default.ensures c.take_last-tail.ensures.items in
    let one = tail_is c.args.levels (drop c.args.base c.args.stack.now.items) (chars c.args.text.now) (chars c.in_ok-opening.rest.now) c.in_ok-opening.opening c.in_ok-opening.ensures.value in
    let alone = tail_form_is (term_at (c.args.levels - 1)) (tail_at (c.args.levels - 1)) (c.args.levels - 1) (drop c.args.base c.args.stack.now.items) c.in_ok-opening.opening (chars c.in_ok-opening.rest.now) c.in_default.not-String c.in_default.not-List in
    put_is (take c.args.base c.args.stack.now.items) _ (cells (drop c.args.base c.args.stack.now.items) c.take_last-tail.result) c.put_list_with_tail.new.stack.items (chars c.in_ok-rest-in_default.rest.now)
    (rw (one, alone, taken.read) refl) (rw taken.stack at c.in_ok-put_list_with_tail-in_default.ensures)
