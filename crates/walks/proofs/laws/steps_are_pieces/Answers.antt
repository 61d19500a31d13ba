use Rattle.walks.proofs.AloneLemmas.{steps_alone}
use Rattle.walks.proofs.laws.steps_are_pieces.Goals as goal

pub returns : goal.returns
returns g c = λ h t q limit at kept s v u. steps_alone h t q limit at kept s v u
