use Rattle.walk_core.proofs.OnceLemmas.{grown_once}
use Rattle.walk_core.proofs.laws.once_outlasts_others.Goals as goal

pub returns : goal.returns
returns c = λ w calls now later done walk grown o. grown_once w calls now later done walk grown o
