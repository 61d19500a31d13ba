use Rattle.parallel_select.proofs.JoinLemmas.{parts_joined}
use Rattle.parallel_select.proofs.laws.parts_join.Goals as goal

pub returns : goal.returns
returns g c o numbers q lists before olds news =
    parts_joined g.T.TryTurns.is_ready g.T.TryTurns.home g.T.TryTurns.sees g.met.T.TryTurns.fits g.met.T.TryTurns.legal o numbers q before lists olds news
