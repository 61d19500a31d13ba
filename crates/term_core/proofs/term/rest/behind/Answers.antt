use Rattle.term_core.proofs.SharedLemmas.{left-slice}
use Rattle.term_core.proofs.term.rest.behind.Goals as goal

pub returns : goal.returns
returns g c = left-slice c.args.count c.args.elements.now
