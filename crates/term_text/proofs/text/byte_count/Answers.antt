use Rattle.std.proofs.Common.{◌≡◌, arith, rules}
use Rattle.std.specs.Str.{IsUtf8, chars}
use Rattle.term_text.proofs.CharacterLemmas.{passed_bytes, one_passed, all_passed}
use Rattle.term_text.proofs.text.byte_count.Goals as goal

pub returns-in_default : goal.returns-in_default
returns-in_default c =
    all_passed c.args.text.now (chars c.loop-passed.rest.now) c.loop-passed._passed c.args.characters c.utf8.text c.loop-passed.invariant.1 c.in_default.ensures (omega (arith, c.loop-passed-test.true))

pub loop-passed-preserved : goal.loop-passed-preserved
loop-passed-preserved c =
    (search rules, one_passed c.loop-passed._passed (chars c.args.text.now) (chars c.loop-passed.rest.now) (chars c.in-Some.behind.now) c.in-Some._first c.loop-passed.invariant.1 c.in-Some.ensures)

pub overflow_sub-result : goal.overflow_sub-result
overflow_sub-result c =
    let utf8 : IsUtf8 c.loop-passed.rest.now = search rules in
    omega (arith, passed_bytes c.args.text.now c.loop-passed.rest.now c.loop-passed._passed c.utf8.text utf8 c.loop-passed.invariant.1)

pub returns : goal.returns
returns c =
    let utf8 : IsUtf8 c.loop-passed.rest.now = search rules in
    let all : c.loop-passed._passed ≡ c.args.characters = omega (arith, c.loop-passed.auto._passed-end, c.loop-passed-test.false) in
    let bytes = passed_bytes c.args.text.now c.loop-passed.rest.now c.loop-passed._passed c.utf8.text utf8 c.loop-passed.invariant.1 in
    rw (← all) (omega (arith, bytes))
