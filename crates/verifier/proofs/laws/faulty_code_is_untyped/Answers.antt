use Rattle.verifier.proofs.BodyLemmas.{faulty_code_untyped}
use Rattle.verifier.proofs.laws.faulty_code_is_untyped.Goals as goal

pub returns : goal.returns
returns c = λ p b told first typing. faulty_code_untyped p b told first typing
