use Rattle.parallel_select.proofs.LawLemmas.{parts_answered}
use Rattle.parallel_select.proofs.laws.parts_are_answered.Goals as goal

pub returns : goal.returns
returns g c h purpose q own gained count v u well placed works part below inside mine = parts_answered h purpose q own gained v well count u placed works part below inside mine
