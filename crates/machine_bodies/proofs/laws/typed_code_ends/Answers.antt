use Rattle.machine_bodies.proofs.RunLemmas.{run_ends}
use Rattle.machine_bodies.proofs.laws.typed_code_ends.Goals as goal

pub returns : goal.returns
returns c = λ p object main typed. run_ends p object main typed
