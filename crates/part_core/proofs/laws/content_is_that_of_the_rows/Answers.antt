use Rattle.part_core.proofs.HistoryLemmas.{content_of}
use Rattle.part_core.proofs.laws.content_is_that_of_the_rows.Goals as goal

pub returns : goal.returns
returns c = λ o log k legal. content_of o log k legal
