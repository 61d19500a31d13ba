use Rattle.part_core.proofs.CoverLemmas.{visit_moves}
use Rattle.part_core.proofs.laws.visits_move_on.Goals as goal

pub returns : goal.returns
returns c = λ o past n purpose p scope wanted said k legal stops. visit_moves o past n purpose p scope wanted said k legal stops
