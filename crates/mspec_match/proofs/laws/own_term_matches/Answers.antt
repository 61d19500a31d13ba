use Rattle.mspec_match.proofs.OwnLemmas.{own-matches}
use Rattle.mspec_match.proofs.laws.own_term_matches.Goals as goal

pub returns : goal.returns
returns c = λ p d s t is. own-matches p d s t is
