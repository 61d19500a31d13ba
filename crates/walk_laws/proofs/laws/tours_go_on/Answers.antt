use Rattle.walk_laws.proofs.KeyLemmas.{has_contained}
use Rattle.walk_laws.proofs.TourLemmas.{not_refused}
use Rattle.walk_laws.proofs.laws.tours_go_on.Goals as goal

pub returns : goal.returns
returns c = λ h t k before after tour met grown steady refused. not_refused h t k before after tour (has_contained t.keys k met) grown steady refused
