use Rattle.std.proofs.lemmas.Grind.{common_steps, elements}
use Rattle.std.proofs.Common.{◌++◌, ap, sym, ◌∙◌, arith}
use Rattle.std.proofs.lemmas.List.{append-nil}
use Rattle.std.proofs.lemmas.Result.{on_ok_weaker}
use Rattle.mspec_syntax.specs.Pattern.{pattern_size, patterns_size, pattern_variables, patterns_of}
use Rattle.mspec_syntax.specs.PatternView.{tail_pattern}
use Rattle.mspec_syntax.proofs.SizeLemmas.{patterns_size-at, fields_size-at, cells-fall, collected}
use Rattle.mspec_syntax.proofs.variables.+variables.Goals as goal

pub collect-collect_all-requires-in-List : goal.collect-collect_all-requires-in-List
collect-collect_all-requires-in-List g t c κs within =
    let is = rw c.in-List.is at c.kind.ensures.value in
    let kept = rw c.in-List.is at c.kind.ensures.kept in
    let fall = cells-fall c.in-List.elements.items (tail_pattern c.in-List.tail) _ is kept.0 in
    (omega (arith, fall.0, ap (λ xs. patterns_size (patterns_of xs)) c.as_slice-in-List.ensures.value, c.decreases), within)

pub collect-collect-requires : goal.collect-collect-requires
collect-collect-requires g t c κs within =
    let is = rw c.in-List.is at c.kind.ensures.value in
    let kept = rw c.in-List.is at c.kind.ensures.kept in
    let fall = cells-fall c.in-List.elements.items (tail_pattern c.in-List.tail) _ is kept.0 in
    (omega (arith, fall.1, ap (λ t. pattern_size (tail_pattern t)) c.in-Some.is, ap pattern_size c.deref.ensures, c.decreases), within)

pub collect-returns-in-None : goal.collect-returns-in-None
collect-returns-in-None g t c =
    let is = rw c.in-List.is at c.kind.ensures.value in
    let mid = c.collect_all-in-List.new.numbers.items in
    let last = sym (ap (λ t. mid ++ pattern_variables (tail_pattern t)) c.in-None.is ∙ append-nil mid) in
    collected c.in-List.elements.items c.as_slice-in-List.result.now (tail_pattern c.in-List.tail) c.args.pattern.now c.args.numbers.now.items mid mid is c.as_slice-in-List.ensures.value c.in_ok-collect_all-in-List.ensures last

pub collect-returns-in-Some : goal.collect-returns-in-Some
collect-returns-in-Some g t c =
    let is = rw c.in-List.is at c.kind.ensures.value in
    let mid = c.collect_all-in-List.new.numbers.items in
    on_ok_weaker c.collect.result
    (λ h.
    let last = h ∙ ap (λ p. mid ++ pattern_variables p) c.deref.ensures ∙ sym (ap (λ t. mid ++ pattern_variables (tail_pattern t)) c.in-Some.is) in
    collected c.in-List.elements.items c.as_slice-in-List.result.now (tail_pattern c.in-List.tail) c.args.pattern.now c.args.numbers.now.items mid c.collect.new.numbers.items is c.as_slice-in-List.ensures.value c.in_ok-collect_all-in-List.ensures last)
    c.collect.ensures

pub collect_all-collect-requires : goal.collect_all-collect-requires
collect_all-collect-requires g t c κs within =
    (omega (arith, patterns_size-at _ _ _ c.loop-pattern-test.true c.pattern-item.is, c.decreases), within)

pub collect_fields-collect-requires : goal.collect_fields-collect-requires
collect_fields-collect-requires g t c κs within =
    (omega (arith, fields_size-at _ _ _ c.loop-pattern-test.true c.loop-pattern-item.is, c.decreases), within)

pub collect-returns-in_err-push-in-Variable : goal.collect-returns-in_err-push-in-Variable
collect-returns-in_err-push-in-Variable g t c = grind (arith, common_steps)

pub collect_all-returns-in_err-collect : goal.collect_all-returns-in_err-collect
collect_all-returns-in_err-collect g t c = grind (arith, elements)

pub collect_all-loop-pattern-preserved : goal.collect_all-loop-pattern-preserved
collect_all-loop-pattern-preserved g t c = grind (arith, common_steps)

pub collect_all-returns : goal.collect_all-returns
collect_all-returns g t c = grind (arith, common_steps)

pub collect_fields-loop-pattern-preserved : goal.collect_fields-loop-pattern-preserved
collect_fields-loop-pattern-preserved g t c = grind (arith, common_steps)

pub collect_fields-returns : goal.collect_fields-returns
collect_fields-returns g t c = grind (arith, common_steps)
