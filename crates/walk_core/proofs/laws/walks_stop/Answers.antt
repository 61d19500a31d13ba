use Rattle.walk_core.proofs.GoesLemmas.{stops_so_far}
use Rattle.walk_core.proofs.laws.walks_stop.Goals as goal

pub returns : goal.returns
returns c = λ h w wanted calls given a at gained now is_at walk legal placed s stops. stops_so_far h w wanted calls given a at gained now is_at walk legal placed s stops
