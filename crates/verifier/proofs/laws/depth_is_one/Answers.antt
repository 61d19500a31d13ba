use Rattle.verifier.proofs.BodyLemmas.{depth_once}
use Rattle.verifier.proofs.laws.depth_is_one.Goals as goal

pub returns : goal.returns
returns c = λ p n m a b. depth_once p n m a b
