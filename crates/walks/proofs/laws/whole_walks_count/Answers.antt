use Rattle.walks.proofs.WhollyLemmas.{counted_alone}
use Rattle.walks.proofs.laws.whole_walks_count.Goals as goal

pub returns : goal.returns
returns g c = λ h t q count v u. counted_alone h t q count v u
