use Rattle.machine_bodies.proofs.RunLemmas.{never_lost}
use Rattle.machine_bodies.proofs.laws.typed_code_is_never_stuck.Goals as goal

pub returns : goal.returns
returns c = λ p object main typed n. never_lost p object main typed n
