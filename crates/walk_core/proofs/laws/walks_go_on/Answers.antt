use Rattle.walk_core.proofs.GoesLemmas.{goes_so_far}
use Rattle.walk_core.proofs.laws.walks_go_on.Goals as goal

pub returns : goal.returns
returns c = λ h w wanted calls given a b is_at walk legal placed s way. goes_so_far h w wanted calls given a b is_at walk legal placed s way
