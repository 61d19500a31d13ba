use Rattle.walks.proofs.DeletedLemmas.{removed_alone}
use Rattle.walks.proofs.laws.whole_walks_remove.Goals as goal

pub returns : goal.returns
returns g c = λ h t q count v u. removed_alone h t q count v u
