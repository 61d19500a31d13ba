use Rattle.std.proofs.Common.{◌≡◌, ap, sym, ◌∙◌, subst, arith}
use Rattle.term_core.specs.Datum.Datum.{nil}
use Rattle.mspec_syntax.specs.Pattern.{Pattern, pattern_size, patterns_size, patterns_of}
use Rattle.mspec_match.specs.Match.{Fits}
use Rattle.mspec_match.specs.Slots.{Answers, seen}
use Rattle.mspec_syntax.specs.PatternView.{tail_pattern}
use Rattle.mspec_syntax.proofs.SizeLemmas.{patterns_size-at, fields_size-at, cells-fall}
use Rattle.term_operand.specs.Operand.{operand_datum}
use Rattle.mspec_match.proofs.FitLemmas.{AllFront-more, AllFront-never, AllFront-all, FieldsFront-more, FieldsFront-never, FieldsFront-missing, FieldsFront-all, lengths-never, variable-Answers, tuple-Answers, map-Answers, cells-more, cells-never, cells-short, cells-all, list-never, list-Answers, Answers-fact}
use Rattle.mspec_match.proofs.bind.+bind.Goals as goal

pub bind_all-returns-then-patterns-terms : goal.bind_all-returns-then-patterns-terms
bind_all-returns-then-patterns-terms g t c = λ s over extends claim. lengths-never c.args.patterns.now c.args.terms.now s c.if-patterns-terms.true claim

pub bind_all-bind-requires : goal.bind_all-bind-requires
bind_all-bind-requires g t c κs within =
    (omega (arith, patterns_size-at _ _ _ c.loop-i-test.true c.index-patterns-i.is, c.decreases), (within, c.loop-i.auto.slots ∙ c.requires))

pub bind_all-returns-then-not-bind : goal.bind_all-returns-then-not-bind
bind_all-returns-then-not-bind g t c =
    AllFront-never c.args.variables.now _ (seen c.loop-i.slots) c.args.patterns.now c.args.terms.now c.loop-i.i c.index-patterns-i.result c.index-terms-i.result c.loop-i-test.true (omega (arith, c.if-patterns-terms.false)) c.index-patterns-i.is c.index-terms-i.is c.if-not-bind.ensures c.loop-i.invariant

pub bind_all-loop-i-preserved : goal.bind_all-loop-i-preserved
bind_all-loop-i-preserved g t c =
    AllFront-more c.args.variables.now _ (seen c.loop-i.slots) (seen c.bind.new.slots) c.args.patterns.now c.args.terms.now c.loop-i.i c.index-patterns-i.result c.index-terms-i.result c.loop-i-test.true (omega (arith, c.if-patterns-terms.false)) c.index-patterns-i.is c.index-terms-i.is c.if-not-bind.ensures c.loop-i.invariant

pub bind_all-returns : goal.bind_all-returns
bind_all-returns g t c =
    AllFront-all c.args.variables.now _ (seen c.loop-i.slots) c.args.patterns.now c.args.terms.now c.loop-i.i c.loop-i-test.false c.if-patterns-terms.false c.loop-i.invariant

pub bind_fields-returns-in_default : goal.bind_fields-returns-in_default
bind_fields-returns-in_default g t c =
    FieldsFront-missing c.args.variables.now _ (seen c.loop-key.slots) c.args.fields.now c.args.pairs.now c.loop-key.key-index c.loop-key-item.result c.loop-key-test.true c.loop-key-item.is c.in_default.ensures c.loop-key.invariant

pub bind_fields-bind-requires : goal.bind_fields-bind-requires
bind_fields-bind-requires g t c κs within =
    (omega (arith, fields_size-at _ _ _ c.loop-key-test.true c.loop-key-item.is, c.decreases), (within, c.loop-key.auto.slots ∙ c.requires.slots))

pub bind_fields-returns-then-not-bind : goal.bind_fields-returns-then-not-bind
bind_fields-returns-then-not-bind g t c =
    FieldsFront-never c.args.variables.now _ (seen c.loop-key.slots) c.args.fields.now c.args.pairs.now c.loop-key.key-index c.loop-key-item.result c.in-Some.value.now c.loop-key-test.true c.loop-key-item.is c.in-Some.ensures c.if-not-bind.ensures c.loop-key.invariant

pub bind_fields-loop-key-preserved : goal.bind_fields-loop-key-preserved
bind_fields-loop-key-preserved g t c =
    FieldsFront-more c.args.variables.now _ (seen c.loop-key.slots) (seen c.bind.new.slots) c.args.fields.now c.args.pairs.now c.loop-key.key-index c.loop-key-item.result c.in-Some.value.now c.loop-key-test.true c.loop-key-item.is c.in-Some.ensures c.if-not-bind.ensures c.loop-key.invariant

pub bind_fields-returns : goal.bind_fields-returns
bind_fields-returns g t c =
    FieldsFront-all c.args.variables.now _ (seen c.loop-key.slots) c.args.fields.now c.args.pairs.now c.loop-key.key-index c.loop-key-test.false c.loop-key.invariant

pub bind_front-returns-in_default : goal.bind_front-returns-in_default
bind_front-returns-in_default g t c =
    cells-short c.args.variables.now _ (seen c.loop-pattern.slots) c.args.patterns.now _ c.loop-pattern.pattern-index c.pattern-item.result _ c.loop-pattern-test.true c.pattern-item.is c.in_default.ensures c.loop-pattern.invariant

pub bind_front-bind-requires : goal.bind_front-bind-requires
bind_front-bind-requires g t c κs within =
    (omega (arith, patterns_size-at _ _ _ c.loop-pattern-test.true c.pattern-item.is, c.decreases), (within, c.loop-pattern.auto.slots ∙ c.requires))

pub bind_front-returns-then-not-bind : goal.bind_front-returns-then-not-bind
bind_front-returns-then-not-bind g t c =
    cells-never c.args.variables.now _ (seen c.loop-pattern.slots) c.args.patterns.now _ c.loop-pattern.pattern-index c.pattern-item.result _ _ _ c.loop-pattern-test.true c.pattern-item.is c.in-Some.ensures c.if-not-bind.ensures c.loop-pattern.invariant

pub bind_front-loop-pattern-preserved : goal.bind_front-loop-pattern-preserved
bind_front-loop-pattern-preserved g t c =
    cells-more c.args.variables.now _ (seen c.loop-pattern.slots) (seen c.bind.new.slots) c.args.patterns.now _ c.loop-pattern.pattern-index c.pattern-item.result _ _ _ c.loop-pattern-test.true c.pattern-item.is c.in-Some.ensures c.if-not-bind.ensures c.loop-pattern.invariant

pub bind_front-returns : goal.bind_front-returns
bind_front-returns g t c =
    cells-all c.args.variables.now _ (seen c.loop-pattern.slots) c.args.patterns.now _ c.loop-pattern.pattern-index _ c.loop-pattern-test.false c.loop-pattern.invariant

pub bind-returns-in_default : goal.bind-returns-in_default
bind-returns-in_default g t c =
    let is = rw c.in-List.is at c.kind.ensures.value in
    list-never c.args.variables.now (seen c.args.slots.now) c.as_slice-in-List.result.now c.in-List.patterns.items (tail_pattern c.in-List.tail) c.args.pattern.now (operand_datum c.args.part) c.as_slice-in-List.ensures.value is c.in_default.ensures

pub bind-bind_front-requires : goal.bind-bind_front-requires
bind-bind_front-requires g t c κs within =
    let is = rw c.in-List.is at c.kind.ensures.value in
    let kept = rw c.in-List.is at c.kind.ensures.kept in
    let fall = cells-fall c.in-List.patterns.items (tail_pattern c.in-List.tail) _ is kept.0 in
    (omega (arith, fall.0, ap (λ xs. patterns_size (patterns_of xs)) c.as_slice-in-List.ensures.value, c.decreases), (within, c.requires))

pub bind-bind-requires : goal.bind-bind-requires
bind-bind-requires g t c κs within =
    let is = rw c.in-List.is at c.kind.ensures.value in
    let kept = rw c.in-List.is at c.kind.ensures.kept in
    let fall = cells-fall c.in-List.patterns.items (tail_pattern c.in-List.tail) _ is kept.0 in
    (omega (arith, fall.1, ap (λ t. pattern_size (tail_pattern t)) c.in-Some-tail.is, ap pattern_size c.deref.ensures, c.decreases), (within, c.bind_front.auto.slots ∙ c.requires))

pub bind-returns-in-Variable : goal.bind-returns-in-Variable
bind-returns-in-Variable g t c =
    variable-Answers c.bind_variable.result _ _ _ _ _ _ (rw c.in-Variable.is at c.kind.ensures.value) c.bind_variable.ensures

pub bind-returns-in-Some : goal.bind-returns-in-Some
bind-returns-in-Some g t c =
    let is = rw c.in-Tuple.is at c.kind.ensures.value in
    tuple-Answers c.bind_all.result c.args.variables.now (seen c.args.slots.now) (seen c.bind_all.new.slots) c.as_slice.result.now c.in-Tuple.patterns.items c.in-Some.elements.now c.args.pattern.now (operand_datum c.args.part) c.as_slice.ensures.value is c.in-Some.ensures c.bind_all.ensures

pub bind-returns-in-None-tail : goal.bind-returns-in-None-tail
bind-returns-in-None-tail g t c =
    let is = rw c.in-List.is at c.kind.ensures.value in
    let vs = c.args.variables.now in
    let mid = seen c.bind_front.new.slots in
    let rest = operand_datum c.in-Some-bind_front.rest in
    let P : Pattern → Type 0 = λ x. Answers c.is_nil.result vs mid mid (λ s. Fits x s rest) in
    list-Answers c.is_nil.result vs (seen c.args.slots.now) mid mid c.as_slice-in-List.result.now c.in-List.patterns.items (tail_pattern c.in-List.tail) c.args.pattern.now (operand_datum c.args.part) rest c.as_slice-in-List.ensures.value is c.in-Some-bind_front.ensures
    (subst P (sym (ap tail_pattern c.in-None-tail.is)) (Answers-fact c.is_nil.result vs mid (rest ≡ nil) c.is_nil.ensures))

pub bind-returns-in-Some-tail : goal.bind-returns-in-Some-tail
bind-returns-in-Some-tail g t c =
    let is = rw c.in-List.is at c.kind.ensures.value in
    let vs = c.args.variables.now in
    let mid = seen c.bind_front.new.slots in
    let rest = operand_datum c.in-Some-bind_front.rest in
    let P : Pattern → Type 0 = λ x. Answers c.bind.result vs mid (seen c.bind.new.slots) (λ s. Fits x s rest) in
    let tail = c.deref.ensures ∙ sym (ap tail_pattern c.in-Some-tail.is) in
    list-Answers c.bind.result vs (seen c.args.slots.now) mid (seen c.bind.new.slots) c.as_slice-in-List.result.now c.in-List.patterns.items (tail_pattern c.in-List.tail) c.args.pattern.now (operand_datum c.args.part) rest c.as_slice-in-List.ensures.value is c.in-Some-bind_front.ensures
    (subst P tail c.bind.ensures)

pub bind-returns-in-Some-pairs : goal.bind-returns-in-Some-pairs
bind-returns-in-Some-pairs g t c =
    let is = rw c.in-Map.is at c.kind.ensures.value in
    map-Answers c.bind_fields.result c.args.variables.now (seen c.args.slots.now) (seen c.bind_fields.new.slots) c.as_slice-in-Some-pairs.result.now c.in-Map.fields.items c.in-Some-pairs.pairs.now c.args.pattern.now (operand_datum c.args.part) c.as_slice-in-Some-pairs.ensures.value is c.in-Some-pairs.ensures.value c.bind_fields.ensures
