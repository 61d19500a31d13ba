use Rattle.part_core.specs.Rows.{opening}
use Rattle.part_core.proofs.HistoryLemmas.{legal_front_from}
use Rattle.part_core.proofs.laws.legal_front.Goals as goal

pub returns : goal.returns
returns c = λ o log more legal. legal_front_from o (opening o) log more legal
