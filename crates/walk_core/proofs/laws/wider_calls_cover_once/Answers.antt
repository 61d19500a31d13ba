use Rattle.walk_core.proofs.OnceLemmas.{wider_once}
use Rattle.walk_core.proofs.laws.wider_calls_cover_once.Goals as goal

pub returns : goal.returns
returns c = λ w calls first before after last done walk quiet grown still o. wider_once w calls first before after last done walk quiet grown still o
