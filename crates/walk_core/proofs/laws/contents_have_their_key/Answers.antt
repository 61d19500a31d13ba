use Rattle.walk_core.proofs.StayedLemmas.{content_has}
use Rattle.walk_core.proofs.laws.contents_have_their_key.Goals as goal

pub returns : goal.returns
returns c = λ w now k count walk legal. content_has w now k count walk legal
