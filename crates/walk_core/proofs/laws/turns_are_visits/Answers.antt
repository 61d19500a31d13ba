use Rattle.walk_core.proofs.TurnLemmas.{turn_visits}
use Rattle.walk_core.proofs.laws.turns_are_visits.Goals as goal

pub returns : goal.returns
returns c = λ h w wanted at gained v u said is_at t. turn_visits h w wanted at gained v u said is_at t
