use Rattle.parallel_select.proofs.LawLemmas.{broken_gathered}
use Rattle.parallel_select.proofs.laws.broken_parts_are_gathered.Goals as goal

pub returns : goal.returns
returns g c h purpose q own gained last v u = broken_gathered h purpose q own gained last v u
