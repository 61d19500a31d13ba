use Rattle.walk_laws.proofs.KeyLemmas.{once_apart}
use Rattle.walk_laws.proofs.TourLemmas.{toured}
use Rattle.walk_laws.proofs.laws.tours_meet_once.Goals as goal

pub returns : goal.returns
returns c = λ h t tour steady. once_apart t.keys (toured h t tour steady).0.once
