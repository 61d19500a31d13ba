use Rattle.walk_laws.proofs.KeyLemmas.{has_contained}
use Rattle.walk_laws.proofs.TourLemmas.{toured}
use Rattle.walk_laws.proofs.laws.tours_meet_who_is_there.Goals as goal

pub returns : goal.returns
returns c = λ h t k tour steady met. (toured h t tour steady).0.there k (has_contained t.keys k met)
