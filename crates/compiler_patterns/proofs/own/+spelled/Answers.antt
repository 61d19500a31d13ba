use Rattle.std.proofs.Common.{length, sym, ap, arith}
use Rattle.std.proofs.lemmas.Result.{IfOk-weaker}
use Rattle.mspec_syntax.specs.Pattern.{pattern_size, patterns_size, patterns_of, cells_of}
use Rattle.mspec_syntax.specs.Pattern.Pattern.{tuple_of}
use Rattle.mspec_syntax.specs.PatternView.{tail_pattern}
use Rattle.mspec_syntax.specs.Sound.{IsSoundPattern}
use Rattle.mspec_syntax.proofs.SizeLemmas.{patterns_size-at, pattern_size-some, patterns_size-some, cells-size}
use Rattle.compiler_patterns.proofs.SpelledLemmas.{sound-at, sound-cells, terms-more, back}
use Rattle.compiler_patterns.proofs.FoundLemmas.{tuple-found, list-found, none-spelled, no-tuple, no-list, no-tail}
use Rattle.compiler_patterns.proofs.own.+spelled.Goals as goal

pub spelled-spelled_tuple-requires : goal.spelled-spelled_tuple-requires
spelled-spelled_tuple-requires g t c κs within =
    let xs = c.as_slice.result.now in
    let ps = c.in-Tuple.elements.items in
    let p = c.args.pattern.now in
    let is = rw c.in-Tuple.is at c.kind.ensures.value in
    let same = c.as_slice.ensures.value in (
      omega (arith, ap pattern_size is, ap (λ l. patterns_size (patterns_of l)) same, c.decreases),
      (within, back (λ l. tuple_of (patterns_of l)) IsSoundPattern xs ps p is same c.requires),
    )

pub spelled-spelled_list-requires : goal.spelled-spelled_list-requires
spelled-spelled_list-requires g t c κs within =
    let xs = c.as_slice-in-List.result.now in
    let ps = c.in-List.elements.items in
    let tail = tail_pattern c.in-List.tail in
    let p = c.args.pattern.now in
    let is = rw c.in-List.is at c.kind.ensures.value in
    let kept = rw c.in-List.is at c.kind.ensures.kept in
    let same = c.as_slice-in-List.ensures.value in (
      omega (arith, cells-size ps tail, ap pattern_size is, ap (λ l. patterns_size (patterns_of l)) same, c.decreases),
      (within, (omega (arith, kept.0, ap length same), back (λ l. cells_of l tail) IsSoundPattern xs ps p is same c.requires)),
    )

pub spelled_all-spelled-requires : goal.spelled_all-spelled-requires
spelled_all-spelled-requires g t c κs within =
    let ps = c.args.patterns.now in
    let i = c.loop-pattern.pattern-index in
    let p = c.pattern-item.result in (
      omega (arith, patterns_size-at ps i p c.loop-pattern-test.true c.pattern-item.is, c.decreases),
      (within, sound-at ps i p c.loop-pattern-test.true c.pattern-item.is c.requires),
    )

pub spelled_all-returns-in_default : goal.spelled_all-returns-in_default
spelled_all-returns-in_default g t c =
    let none = rw c.in_default.is at c.in_ok-term.ensures in
    none-spelled c.args.patterns.now c.loop-pattern.pattern-index c.pattern-item.result c.loop-pattern-test.true c.pattern-item.is none

pub spelled_all-loop-pattern-preserved : goal.spelled_all-loop-pattern-preserved
spelled_all-loop-pattern-preserved g t c =
    let some = rw c.in-Some.is at c.in_ok-term.ensures in
    terms-more c.args.patterns.now c.loop-pattern.pattern-index c.pattern-item.result c.loop-pattern.terms.items c.push.new.self.items c.in-Some.term c.loop-pattern-test.true c.pattern-item.is (sym some) c.in_ok-push.ensures.items c.loop-pattern.invariant

pub spelled_list-spelled_all-requires : goal.spelled_list-spelled_all-requires
spelled_list-spelled_all-requires g t c κs within =
    let es = c.args.elements.now in
    let tail = tail_pattern c.args.tail.now in
    (omega (arith, pattern_size-some tail, c.decreases), (within, (sound-cells es tail c.requires.sound).0))

pub spelled_list-spelled_tail-requires : goal.spelled_list-spelled_tail-requires
spelled_list-spelled_tail-requires g t c κs within =
    let es = c.args.elements.now in
    let tail = tail_pattern c.args.tail.now in
    (omega (arith, patterns_size-some es c.requires.elements, c.decreases), (within, (sound-cells es tail c.requires.sound).1))

pub spelled_list-returns-in_default : goal.spelled_list-returns-in_default
spelled_list-returns-in_default g t c =
    let none = rw c.in_default.is at c.in_ok-terms.ensures in
    no-list c.args.elements.now (tail_pattern c.args.tail.now) none

pub spelled_list-returns-in_default-2 : goal.spelled_list-returns-in_default-2
spelled_list-returns-in_default-2 g t c =
    let none = rw c.in_default-2.is at c.in_ok-end.ensures in
    no-tail c.args.elements.now (tail_pattern c.args.tail.now) none

pub spelled_tuple-returns-in_default : goal.spelled_tuple-returns-in_default
spelled_tuple-returns-in_default g t c =
    let none = rw c.in_default.is at c.in_ok-terms.ensures in
    no-tuple c.args.elements.now none

pub spelled_tuple-returns : goal.spelled_tuple-returns
spelled_tuple-returns g t c =
    let es = c.args.elements.now in
    let own = rw c.in-Some.is at c.in_ok-terms.ensures in
    IfOk-weaker c.make_tuple.result _ _ (λ made e. tuple-found es c.in-Some.terms.items made c.requires own e) c.make_tuple.ensures

pub spelled_list-returns : goal.spelled_list-returns
spelled_list-returns g t c =
    let es = c.args.elements.now in
    let tail = tail_pattern c.args.tail.now in
    let own = rw c.in-Some.is at c.in_ok-terms.ensures in
    let end = rw c.in-Some-2.is at c.in_ok-end.ensures in
    IfOk-weaker c.make_list.result _ _ (λ made e. list-found es tail c.in-Some.terms.items c.in-Some-2.end made c.requires.sound own end e) c.make_list.ensures
