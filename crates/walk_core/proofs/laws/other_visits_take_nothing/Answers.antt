use Rattle.walk_core.proofs.OnceLemmas.{takes_nothing}
use Rattle.walk_core.proofs.laws.other_visits_take_nothing.Goals as goal

pub returns : goal.returns
returns c = λ o past n purpose p scope wanted said k other. takes_nothing o past n purpose p scope wanted said k other
