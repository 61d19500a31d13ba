use Rattle.walk_core.proofs.GrowthLemmas.{grown_so_far}
use Rattle.walk_core.proofs.laws.walks_outlast_others.Goals as goal

pub returns : goal.returns
returns c = λ w calls given now later at kept walk grown s. grown_so_far w calls given now later at kept walk grown s
