use Rattle.mspec_meaning.proofs.MeaningLemmas.{one-meaning}
use Rattle.mspec_meaning.proofs.laws.one_answer_is_meant.Goals as goal

pub returns : goal.returns
returns c = λ spec o a b h k. one-meaning spec o a b h k
