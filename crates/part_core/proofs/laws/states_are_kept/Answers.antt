use Rattle.part_core.proofs.HistoryLemmas.{state_of}
use Rattle.part_core.proofs.laws.states_are_kept.Goals as goal

pub returns : goal.returns
returns c = λ o log legal. state_of o log legal
