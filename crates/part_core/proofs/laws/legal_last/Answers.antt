use Rattle.part_core.specs.Rows.{opening}
use Rattle.std.proofs.Common.{[], ◌∷◌}
use Rattle.part_core.proofs.HistoryLemmas.{legal_rest_from}
use Rattle.part_core.proofs.laws.legal_last.Goals as goal

pub returns : goal.returns
returns c = λ o log e legal. (legal_rest_from o (opening o) log (e ∷ []) legal).0
