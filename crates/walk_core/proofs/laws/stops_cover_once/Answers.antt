use Rattle.walk_core.proofs.OnceLemmas.{stops_once}
use Rattle.walk_core.proofs.laws.stops_cover_once.Goals as goal

pub returns : goal.returns
returns c = λ h w wanted calls a at gained now is_at walk legal position o stops. stops_once h w wanted calls a at gained now is_at walk legal position o stops
