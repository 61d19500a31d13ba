use Rattle.walks.proofs.PieceCounts.{stopped}
use Rattle.walks.proofs.laws.counts_stop.Goals as goal

pub returns : goal.returns
returns c = λ h w calls v u at later number more is_at walk legal placed s t. stopped h w calls v u at later number more is_at walk legal placed s t
