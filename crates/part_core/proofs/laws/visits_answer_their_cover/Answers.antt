use Rattle.part_core.proofs.CoverLemmas.{visit_yields}
use Rattle.part_core.proofs.laws.visits_answer_their_cover.Goals as goal

pub returns : goal.returns
returns c = λ o past n purpose p scope wanted said legal. visit_yields o past n purpose p scope wanted said legal
