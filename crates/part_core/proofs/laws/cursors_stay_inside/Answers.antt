use Rattle.part_core.proofs.LawLemmas.{inside_stays}
use Rattle.part_core.proofs.laws.cursors_stay_inside.Goals as goal

pub returns : goal.returns
returns c = λ o past more scope legal inside. inside_stays o past more scope legal inside
