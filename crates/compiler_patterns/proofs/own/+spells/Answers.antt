use Rattle.std.proofs.Common.{◌∙◌, sym, ap, arith}
use Rattle.mspec_syntax.specs.Pattern.{patterns_size, patterns_of}
use Rattle.mspec_syntax.specs.PatternView.{tail_pattern}
use Rattle.mspec_syntax.proofs.SizeLemmas.{patterns_size-at, cells-fall}
use Rattle.compiler_patterns.specs.Spelled.{spells, all_spell}
use Rattle.compiler_patterns.proofs.SpelledLemmas.{tuple-spells, tail-decides, elements-decide}
use Rattle.compiler_patterns.proofs.own.+spells.Goals as goal

pub all_spell-spells-requires : goal.all_spell-spells-requires
all_spell-spells-requires g t c κs within =
    (omega (arith, patterns_size-at _ _ _ c.loop-pattern-test.true c.pattern-item.is, c.decreases), within)

pub spells-all_spell-requires-in-List : goal.spells-all_spell-requires-in-List
spells-all_spell-requires-in-List g t c κs within =
    let is = rw c.in-List.is at c.kind.ensures.value in
    let kept = rw c.in-List.is at c.kind.ensures.kept in
    let fall = cells-fall c.in-List.elements.items (tail_pattern c.in-List.tail) _ is kept.0 in
    (omega (arith, fall.0, ap (λ xs. patterns_size (patterns_of xs)) c.as_slice-in-List.ensures.value, c.decreases), within)

pub spells-tail_spells-requires : goal.spells-tail_spells-requires
spells-tail_spells-requires g t c κs within =
    let is = rw c.in-List.is at c.kind.ensures.value in
    let kept = rw c.in-List.is at c.kind.ensures.kept in
    let fall = cells-fall c.in-List.elements.items (tail_pattern c.in-List.tail) _ is kept.0 in
    (omega (arith, fall.1, c.decreases), within)

pub spells-returns-in-Tuple : goal.spells-returns-in-Tuple
spells-returns-in-Tuple g t c =
    let is = rw c.in-Tuple.is at c.kind.ensures.value in
    c.all_spell.ensures ∙ ap all_spell c.as_slice.ensures.value ∙ sym (tuple-spells c.in-Tuple.elements.items) ∙ ap spells is

pub spells-returns-then-all_spell : goal.spells-returns-then-all_spell
spells-returns-then-all_spell g t c =
    let is = rw c.in-List.is at c.kind.ensures.value in
    tail-decides c.in-List.elements.items c.as_slice-in-List.result.now (tail_pattern c.in-List.tail) c.args.pattern.now c.all_spell-in-List.result c.tail_spells.result is c.as_slice-in-List.ensures.value c.all_spell-in-List.ensures c.if-all_spell.true c.tail_spells.ensures

pub spells-returns-else-all_spell : goal.spells-returns-else-all_spell
spells-returns-else-all_spell g t c =
    let is = rw c.in-List.is at c.kind.ensures.value in
    elements-decide c.in-List.elements.items c.as_slice-in-List.result.now (tail_pattern c.in-List.tail) c.args.pattern.now c.all_spell-in-List.result is c.as_slice-in-List.ensures.value c.all_spell-in-List.ensures c.if-all_spell.false
