use Rattle.part_core.proofs.HistoryLemmas.{counts_of}
use Rattle.part_core.proofs.laws.fixes_are_counted.Goals as goal

pub returns : goal.returns
returns c = λ o log n legal within. counts_of o log n legal within
