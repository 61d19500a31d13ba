use Rattle.walk_core.proofs.GoesLemmas.{begins_so_far}
use Rattle.walk_core.proofs.laws.walks_begin.Goals as goal

pub returns : goal.returns
returns c = λ w now walk. begins_so_far w now walk
