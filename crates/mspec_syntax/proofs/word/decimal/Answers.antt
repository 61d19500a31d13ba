use Rattle.std.proofs.Common.{◌≤◌, get_or, arith}
use Rattle.mspec_syntax.proofs.WordLemmas.{next-fits}
use Rattle.mspec_syntax.proofs.word.decimal.Goals as goal

pub overflow_mul-number : goal.overflow_mul-number
overflow_mul-number c =
    let fits = next-fits c.loop-digit.number c.loop-digit.digit-index c.args.digits.now c.loop-digit-test.true c.loop-digit.invariant.0 c.loop-digit.invariant.1 c.requires.digits c.requires.short in
    omega arith

pub overflow_add-number : goal.overflow_add-number
overflow_add-number c =
    let fits = next-fits c.loop-digit.number c.loop-digit.digit-index c.args.digits.now c.loop-digit-test.true c.loop-digit.invariant.0 c.loop-digit.invariant.1 c.requires.digits c.requires.short in
    omega arith
