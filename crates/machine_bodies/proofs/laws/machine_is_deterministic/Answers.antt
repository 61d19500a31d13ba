use Rattle.mcode.specs.Run.{begin}
use Rattle.machine_bodies.proofs.RunLemmas.{run_is_one}
use Rattle.machine_bodies.proofs.laws.machine_is_deterministic.Goals as goal

pub returns : goal.returns
returns c = λ p object n m a b. run_is_one p object n m (begin p) a b
