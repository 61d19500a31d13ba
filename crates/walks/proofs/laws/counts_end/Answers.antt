use Rattle.walk_core.proofs.GoesLemmas.{ends_answer}
use Rattle.walks.proofs.laws.counts_end.Goals as goal

pub returns : goal.returns
returns c = λ w calls now number walk s. (s.found, ends_answer w calls s.found now walk s.so_far, s.count)
