use Rattle.std.proofs.Common.{refl, arith, rules}
use Rattle.term_text.proofs.token.more_digits.Goals as goal

pub loop-character-init : goal.loop-character-init
loop-character-init c = (search rules, (c.args.before, omega (arith, c.ranges.before.fits), refl))
