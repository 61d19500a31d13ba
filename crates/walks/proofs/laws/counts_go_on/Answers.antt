use Rattle.walks.proofs.PieceCounts.{gone_on}
use Rattle.walks.proofs.laws.counts_go_on.Goals as goal

pub returns : goal.returns
returns c = λ h w calls v u at later number more is_at walk legal placed s t. gone_on h w calls v u at later number more is_at walk legal placed s t
