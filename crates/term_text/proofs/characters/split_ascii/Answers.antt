use Rattle.std.proofs.Common.{arith}
use Rattle.term_text.proofs.CharacterLemmas.{nothing_first, first_ascii, cut_behind, no_ascii}
use Rattle.term_text.proofs.characters.split_ascii.Goals as goal

pub returns-in_err-first : goal.returns-in_err-first
returns-in_err-first c = rw c.from_residual.ensures (nothing_first c.args.text.now c.as_bytes.result.now c.as_bytes.ensures.value c.in_err-first.ensures.value)

pub range_from-requires : goal.range_from-requires
range_from-requires c = λ _. cut_behind c.args.text.now c.as_bytes.result.now c.in_ok-first.field-0.now c.utf8.text c.as_bytes.ensures.value c.in_ok-first.ensures.value c.if-first-lt128.true

pub returns-then-first-lt128 : goal.returns-then-first-lt128
returns-then-first-lt128 c =
    rw c.from.ensures (c.if-first-lt128.true, first_ascii c.args.text.now c.as_bytes.result.now c.range_from.result.now c.in_ok-first.field-0.now c.utf8.text c.as_bytes.ensures.value c.in_ok-first.ensures.value c.if-first-lt128.true c.range_from.ensures.value)

pub returns-else-first-lt128 : goal.returns-else-first-lt128
returns-else-first-lt128 c = no_ascii c.args.text.now c.as_bytes.result.now c.in_ok-first.field-0.now c.utf8.text c.as_bytes.ensures.value c.in_ok-first.ensures.value (omega (arith, c.if-first-lt128.false))
