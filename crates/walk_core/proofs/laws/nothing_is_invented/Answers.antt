use Rattle.walk_core.proofs.StayedLemmas.{answered_for}
use Rattle.walk_core.proofs.laws.nothing_is_invented.Goals as goal

pub returns : goal.returns
returns c = λ w calls now done answers a g there. answered_for w calls now done answers a g there
