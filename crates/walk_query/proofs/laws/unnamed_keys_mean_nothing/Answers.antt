use Rattle.walk_query.proofs.NamedLemmas.{unnamed-means}
use Rattle.walk_query.proofs.laws.unnamed_keys_mean_nothing.Goals as goal

pub returns : goal.returns
returns c = λ keypos spec ks o k answer is there none. unnamed-means keypos spec ks o k answer is there none
