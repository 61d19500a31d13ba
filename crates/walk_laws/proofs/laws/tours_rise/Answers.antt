use Rattle.walk_laws.proofs.TourLemmas.{toured}
use Rattle.walk_laws.proofs.laws.tours_rise.Goals as goal

pub returns : goal.returns
returns c = λ h t tour steady ordered. (toured h t tour steady).0.rising ordered
