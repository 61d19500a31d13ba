use Rattle.walks.proofs.PieceCounts.{begun}
use Rattle.walks.proofs.laws.counts_begin.Goals as goal

pub returns : goal.returns
returns c = λ w now walk. begun w now walk
