use Rattle.walks.proofs.WhollyLemmas.{selected_alone}
use Rattle.walks.proofs.laws.whole_walks_select.Goals as goal

pub returns : goal.returns
returns g c = λ h t q wanted gained v u. selected_alone h t q wanted gained v u
