use Rattle.walk_core.proofs.OnceLemmas.{deleting_takes}
use Rattle.walk_core.proofs.laws.deleting_walks_take_the_marks.Goals as goal

pub returns : goal.returns
returns c = λ w calls now done answers deletes g o k place v. deleting_takes w calls now done answers deletes g o k place v
