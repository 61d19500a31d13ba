use Rattle.parallel_select.proofs.JoinLemmas.{counts_joined}
use Rattle.parallel_select.proofs.laws.counts_join.Goals as goal

pub returns : goal.returns
returns g c o numbers purpose q count before olds news =
    counts_joined g.T.TryTurns.is_ready g.T.TryTurns.home g.T.TryTurns.sees g.met.T.TryTurns.fits g.met.T.TryTurns.legal o numbers q before purpose count olds news
