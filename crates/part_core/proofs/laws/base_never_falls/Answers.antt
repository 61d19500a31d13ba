use Rattle.part_core.proofs.HistoryLemmas.{base_over}
use Rattle.part_core.proofs.laws.base_never_falls.Goals as goal

pub returns : goal.returns
returns c = λ o past more legal. base_over o past more legal
