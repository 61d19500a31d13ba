use Rattle.term_core.proofs.FedLemmas.{fed_one}
use Rattle.term_core.proofs.feed.feed_kind.Goals as goal

pub returns : goal.returns
returns g c = fed_one g.H.Hasher.write _ _ _ (rw c.kind_word.ensures at c.write_u64.ensures)
