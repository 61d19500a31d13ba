use Rattle.part_core.proofs.LawLemmas.{visits_led_inside}
use Rattle.part_core.proofs.laws.visits_lead_inside.Goals as goal

pub returns : goal.returns
returns c = λ o past n purpose p scope wanted said at legal goes. visits_led_inside o past n purpose p scope wanted said at legal goes
