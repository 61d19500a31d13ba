use Rattle.part_core.proofs.LawLemmas.{fixes_show}
use Rattle.part_core.proofs.laws.fixes_show.Goals as goal

pub returns : goal.returns
returns c = λ o log n legal within some. fixes_show o log n legal within some
