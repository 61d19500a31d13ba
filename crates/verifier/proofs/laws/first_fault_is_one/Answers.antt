use Rattle.verifier.proofs.BodyLemmas.{first_once}
use Rattle.verifier.proofs.laws.first_fault_is_one.Goals as goal

pub returns : goal.returns
returns ctx = λ p b c told again one two. first_once p b c told again one two
