use Rattle.machine_laws.proofs.DepthLemmas.{runs_within}
use Rattle.machine_laws.proofs.laws.runs_stay_within_the_depth.Goals as goal

pub returns : goal.returns
returns c = runs_within
