use Rattle.walk_core.proofs.StayedLemmas.{one_answer}
use Rattle.walk_core.proofs.laws.one_answer_a_key.Goals as goal

pub returns : goal.returns
returns c = λ w now k moment set walk legal. one_answer w now k moment set walk legal
