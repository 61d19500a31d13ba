use Rattle.part_core.proofs.LawLemmas.{none_elsewhere}
use Rattle.part_core.proofs.laws.none_elsewhere.Goals as goal

pub returns : goal.returns
returns c = λ o part log k placed other. none_elsewhere o part log k placed other
