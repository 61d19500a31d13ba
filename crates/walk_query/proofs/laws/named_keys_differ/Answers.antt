use Rattle.walk_query.proofs.NamedLemmas.{named-differ}
use Rattle.walk_query.proofs.laws.named_keys_differ.Goals as goal

pub returns : goal.returns
returns c = λ keypos spec ks is. named-differ keypos spec ks is
