use Rattle.walk_core.proofs.StayedLemmas.{stayed_answered}
use Rattle.walk_core.proofs.laws.who_stayed_is_answered.Goals as goal

pub returns : goal.returns
returns c = λ w calls now answers t a ans object inside given stayed. stayed_answered w calls now answers t a ans object inside given stayed
