use Rattle.part_core.specs.Rows.{opening}
use Rattle.std.proofs.Common.{[], ◌∷◌}
use Rattle.part_core.proofs.HistoryLemmas.{legal_on_from}
use Rattle.part_core.proofs.laws.legal_goes_on.Goals as goal

pub returns : goal.returns
returns c = λ o log e legal right. legal_on_from o (opening o) log (e ∷ []) legal (right, tt)
