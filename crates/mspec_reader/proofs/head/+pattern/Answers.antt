use Rattle.std.proofs.Common.{inr, ap, arith}
use Rattle.std.specs.Option.{option_copied}
use Rattle.std.proofs.lemmas.Result.{err_from_is_err_and}
use Rattle.term_core.proofs.DepthLemmas.{items_depth-at, entries_depth-at, elements-fall, tail-falls}
use Rattle.mspec_syntax.proofs.PatternLemmas.{ReadsFront-more, ReadsFront-all, ReadsFront-refuses, FieldsFront-more, FieldsFront-all, FieldsFront-refuses_key, FieldsFront-refuses_value, proper-IsPattern, improper-IsPattern, elements-Refuses, tail-Refuses, elements-some, tail-no_list}
use Rattle.mspec_reader.proofs.head.+pattern.Goals as goal

pub read_fields-returns-in_err-test_key-clause-refused :
    goal.read_fields-returns-in_err-test_key-clause-refused
read_fields-returns-in_err-test_key-clause-refused g t c =
    let p = err_from_is_err_and c.from_residual.result c.from_residual.ensures.1 in
    rw (p.1, p.2)
    (FieldsFront-refuses_key c.args.clause c.args.pairs.now c.loop-key.key-index c.loop-key-item.result c.loop-key.fields.items c.in_err-test_key.field-0.0 c.loop-key-test.true c.loop-key-item.is c.loop-key.invariant (inr c.in_err-test_key.ensures.refused))

pub read_fields-read_pattern-requires : goal.read_fields-read_pattern-requires
read_fields-read_pattern-requires g t c κs within =
    let p = entries_depth-at _ _ _ c.loop-key-test.true c.loop-key-item.is in (omega (arith, p.1, c.decreases), within)

pub read_fields-returns-in_err-pattern-clause-refused :
    goal.read_fields-returns-in_err-pattern-clause-refused
read_fields-returns-in_err-pattern-clause-refused g t c =
    let residual = c.from_residual-in_err-pattern in
    let p = err_from_is_err_and residual.result residual.ensures.1 in
    rw (p.1, p.2)
    (FieldsFront-refuses_value c.args.clause c.args.pairs.now c.loop-key.key-index c.loop-key-item.result c.loop-key.fields.items c.in_err-pattern.field-0.0 c.loop-key-test.true c.loop-key-item.is c.loop-key.invariant c.in_ok-test_key.ensures.ok c.in_err-pattern.ensures.refused)

pub read_fields-loop-key-preserved : goal.read_fields-loop-key-preserved
read_fields-loop-key-preserved g t c =
    FieldsFront-more c.args.clause c.args.pairs.now c.loop-key.key-index c.loop-key-item.result c.loop-key.fields.items _ c.in_ok-key.key c.in_ok-pattern.pattern c.loop-key-test.true c.loop-key-item.is c.in_ok-test_key.ensures.ok c.in_ok-key.ensures c.in_ok-pattern.ensures.ok c.in_ok-push.ensures.items c.loop-key.invariant

pub read_fields-returns-clause-ok : goal.read_fields-returns-clause-ok
read_fields-returns-clause-ok g t c =
    FieldsFront-all c.args.clause c.args.pairs.now c.loop-key.key-index c.loop-key.fields.items c.loop-key-test.false c.loop-key.invariant

pub read_pattern-read_patterns-requires-in-List-default-None :
    goal.read_pattern-read_patterns-requires-in-List-default-None
read_pattern-read_patterns-requires-in-List-default-None g t c κs within =
    let arm = c.in-List-default-None in
    (omega (arith, elements-fall arm.elements.now (option_copied arm.field-1) _ arm.ensures.value arm.ensures.split.0, c.decreases), within)

pub read_pattern-returns-in_err-elements-in-List-default-None-clause-refused :
    goal.read_pattern-returns-in_err-elements-in-List-default-None-clause-refused
read_pattern-returns-in_err-elements-in-List-default-None-clause-refused g t c =
    let residual = c.from_residual-in_err-elements-in-List-default-None in
    let p = err_from_is_err_and residual.result residual.ensures.1 in
    let arm = c.in-List-default-None in
    let failed = c.in_err-elements-in-List-default-None in
    rw (p.1, p.2) (elements-Refuses c.args.clause arm.elements.now (option_copied arm.field-1) c.args.term.now failed.field-0.0 arm.ensures.value failed.ensures.refused)

pub read_pattern-new-requires-in-List-default-None :
    goal.read_pattern-new-requires-in-List-default-None
read_pattern-new-requires-in-List-default-None g t c =
    let arm = c.in-List-default-None in
    let made = c.in_ok-elements-in-List-default-None in
    (elements-some arm.elements.now made.elements.items made.ensures.ok arm.ensures.split.0, tt)

pub read_pattern-read_patterns-requires-in-List-default-Some :
    goal.read_pattern-read_patterns-requires-in-List-default-Some
read_pattern-read_patterns-requires-in-List-default-Some g t c κs within =
    let arm = c.in-List-default-Some in
    (omega (arith, elements-fall arm.elements.now (option_copied arm.field-1) _ arm.ensures.value arm.ensures.split.0, c.decreases), within)

pub read_pattern-returns-in_err-elements-in-List-default-Some-clause-refused :
    goal.read_pattern-returns-in_err-elements-in-List-default-Some-clause-refused
read_pattern-returns-in_err-elements-in-List-default-Some-clause-refused g t c =
    let residual = c.from_residual-in_err-elements-in-List-default-Some in
    let p = err_from_is_err_and residual.result residual.ensures.1 in
    let arm = c.in-List-default-Some in
    let failed = c.in_err-elements-in-List-default-Some in
    rw (p.1, p.2) (elements-Refuses c.args.clause arm.elements.now (option_copied arm.field-1) c.args.term.now failed.field-0.0 arm.ensures.value failed.ensures.refused)

pub read_pattern-read_pattern-requires : goal.read_pattern-read_pattern-requires
read_pattern-read_pattern-requires g t c κs within =
    let arm = c.in-List-default-Some in
    (omega (arith, tail-falls arm.elements.now (option_copied arm.field-1) _ _ (ap option_copied arm.field-1-is) arm.ensures.value arm.ensures.split.0 arm.ensures.split.1, c.decreases), within)

pub read_pattern-returns-in_err-tail-in-List-default-Some-clause-refused :
    goal.read_pattern-returns-in_err-tail-in-List-default-Some-clause-refused
read_pattern-returns-in_err-tail-in-List-default-Some-clause-refused g t c =
    let residual = c.from_residual-in_err-tail-in-List-default-Some in
    let p = err_from_is_err_and residual.result residual.ensures.1 in
    let arm = c.in-List-default-Some in
    let made = c.in_ok-elements-in-List-default-Some in
    let failed = c.in_err-tail-in-List-default-Some in
    rw (p.1, p.2)
    (tail-Refuses c.args.clause arm.elements.now (option_copied arm.field-1) arm.tail.now c.args.term.now made.elements.items failed.field-0.0 (ap option_copied arm.field-1-is) arm.ensures.value made.ensures.ok failed.ensures.refused)

pub read_pattern-new-requires-in-List-default-Some-2 :
    goal.read_pattern-new-requires-in-List-default-Some-2
read_pattern-new-requires-in-List-default-Some-2 g t c =
    let arm = c.in-List-default-Some in
    let made = c.in_ok-elements-in-List-default-Some in
    let tail = c.in_ok-tail-in-List-default-Some in (
      elements-some arm.elements.now made.elements.items made.ensures.ok arm.ensures.split.0,
      rw c.in_ok-tail-in-List-default-Some-2.ensures.ok
          (tail-no_list (option_copied arm.field-1) arm.tail.now tail.tail (ap option_copied arm.field-1-is) arm.ensures.split.1 tail.ensures.ok),
    )

pub read_pattern-returns-in_ok-elements-in-List-default-None-clause-ok :
    goal.read_pattern-returns-in_ok-elements-in-List-default-None-clause-ok
read_pattern-returns-in_ok-elements-in-List-default-None-clause-ok g t c =
    let arm = c.in-List-default-None in
    let made = c.in_ok-elements-in-List-default-None in
    rw c.new-in-List-default-None.ensures
    (proper-IsPattern arm.elements.now (option_copied arm.field-1) c.args.term.now made.elements.items (ap option_copied arm.field-1-is) arm.ensures.value made.ensures.ok)

pub read_pattern-returns-in_ok-tail-in-List-default-Some-2-clause-ok :
    goal.read_pattern-returns-in_ok-tail-in-List-default-Some-2-clause-ok
read_pattern-returns-in_ok-tail-in-List-default-Some-2-clause-ok g t c =
    let arm = c.in-List-default-Some in
    let made = c.in_ok-elements-in-List-default-Some in
    let tail = c.in_ok-tail-in-List-default-Some in
    rw (c.new-in-List-default-Some-2.ensures, c.in_ok-tail-in-List-default-Some-2.ensures.ok)
    (improper-IsPattern arm.elements.now (option_copied arm.field-1) arm.tail.now c.args.term.now made.elements.items tail.tail (ap option_copied arm.field-1-is) arm.ensures.value made.ensures.ok tail.ensures.ok)

pub read_patterns-read_pattern-requires : goal.read_patterns-read_pattern-requires
read_patterns-read_pattern-requires g t c κs within =
    (omega (arith, items_depth-at _ _ _ c.loop-term-test.true c.term-item.is, c.decreases), within)

pub read_patterns-returns-in_err-pattern-clause-refused :
    goal.read_patterns-returns-in_err-pattern-clause-refused
read_patterns-returns-in_err-pattern-clause-refused g t c =
    let p = err_from_is_err_and c.from_residual.result c.from_residual.ensures.1 in
    rw (p.1, p.2)
    (ReadsFront-refuses c.args.clause c.args.terms.now c.loop-term.term-index c.term-item.result c.loop-term.patterns.items c.in_err-pattern.field-0.0 c.loop-term-test.true c.term-item.is c.loop-term.invariant c.in_err-pattern.ensures.refused)

pub read_patterns-loop-term-preserved : goal.read_patterns-loop-term-preserved
read_patterns-loop-term-preserved g t c =
    ReadsFront-more c.args.clause c.args.terms.now c.loop-term.term-index c.term-item.result c.loop-term.patterns.items _ c.in_ok-pattern.pattern c.loop-term-test.true c.term-item.is c.in_ok-pattern.ensures.ok c.in_ok-push.ensures.items c.loop-term.invariant

pub read_patterns-returns-clause-ok : goal.read_patterns-returns-clause-ok
read_patterns-returns-clause-ok g t c =
    ReadsFront-all c.args.clause c.args.terms.now c.loop-term.term-index c.loop-term.patterns.items c.loop-term-test.false c.loop-term.invariant
