use Rattle.parallel_select.proofs.RemovalLemmas.{removals_joined}
use Rattle.parallel_select.proofs.laws.removals_join.Goals as goal

pub returns : goal.returns
returns g c o numbers q count before olds news =
    removals_joined g.T.TryTurns.is_ready g.T.TryTurns.home g.T.TryTurns.sees g.met.T.TryTurns.fits g.met.T.TryTurns.legal o numbers q before count olds news
