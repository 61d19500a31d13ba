use Rattle.std.proofs.Common.{◌∙◌, ap}
use Rattle.std.specs.Ordering.{is_eq}
use Rattle.mspec_match.proofs.FitLemmas.{eq-says}
use Rattle.mspec_match.proofs.bind.are_same.Goals as goal

pub returns : goal.returns
returns g c = eq-says c.is_eq.result _ _ (c.is_eq.ensures ∙ ap is_eq c.compare.ensures)
