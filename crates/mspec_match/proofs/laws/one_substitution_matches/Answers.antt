use Rattle.mspec_match.proofs.MatchLemmas.{one-match}
use Rattle.mspec_match.proofs.laws.one_substitution_matches.Goals as goal

pub returns : goal.returns
returns c = λ p t s r h k. one-match p t s r h k
