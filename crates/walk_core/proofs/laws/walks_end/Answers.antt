use Rattle.walk_core.proofs.GoesLemmas.{ends_answer}
use Rattle.walk_core.proofs.laws.walks_end.Goals as goal

pub returns : goal.returns
returns c = λ w calls given now walk s. ends_answer w calls given now walk s
