use Rattle.walk_core.proofs.OnceLemmas.{begins_once}
use Rattle.walk_core.proofs.laws.walks_begin_once.Goals as goal

pub returns : goal.returns
returns c = λ w now. begins_once w now
