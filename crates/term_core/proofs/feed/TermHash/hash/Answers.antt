use Rattle.std.proofs.Common.{[]}
use Rattle.term_core.proofs.feed.TermHash.hash.Goals as goal

pub returns : goal.returns
returns g c = c.feed.ensures.follows []
