use Rattle.walk_core.proofs.TurnLemmas.{never_outside}
use Rattle.walk_core.proofs.laws.visits_are_answered.Goals as goal

pub returns : goal.returns
returns c = λ h w at wanted v u refusal is_at walk more position t. never_outside h w at wanted v u refusal is_at walk more position t
