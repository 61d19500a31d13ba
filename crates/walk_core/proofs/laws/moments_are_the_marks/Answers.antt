use Rattle.walk_core.proofs.OnceLemmas.{moments_marked}
use Rattle.walk_core.proofs.laws.moments_are_the_marks.Goals as goal

pub returns : goal.returns
returns c = λ w calls now done answers g o k moment m. moments_marked w calls now done answers g o k moment m
