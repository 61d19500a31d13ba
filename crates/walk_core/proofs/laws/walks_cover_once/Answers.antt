use Rattle.walk_core.proofs.OnceLemmas.{goes_once}
use Rattle.walk_core.proofs.laws.walks_cover_once.Goals as goal

pub returns : goal.returns
returns c = λ h w wanted calls a b is_at walk legal position o way. goes_once h w wanted calls a b is_at walk legal position o way
