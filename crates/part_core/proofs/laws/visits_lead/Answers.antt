use Rattle.part_core.proofs.LawLemmas.{visits_led}
use Rattle.part_core.proofs.laws.visits_lead.Goals as goal

pub returns : goal.returns
returns c = λ o past n purpose p scope wanted said legal. visits_led o past n purpose p scope wanted said legal
