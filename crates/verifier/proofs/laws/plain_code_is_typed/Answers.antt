use Rattle.verifier.proofs.PlainLemmas.{plain_typed}
use Rattle.verifier.proofs.laws.plain_code_is_typed.Goals as goal

pub returns : goal.returns
returns c = λ p shapes plain. plain_typed p shapes plain
