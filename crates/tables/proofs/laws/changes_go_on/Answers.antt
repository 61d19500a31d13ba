use Rattle.tables.proofs.LawLemmas.{changes_go_on}
use Rattle.tables.proofs.laws.changes_go_on.Goals as goal

pub returns : goal.returns
returns c = λ h from at to act answer v w x below above first second. changes_go_on h from at to act answer v w x below above first second
