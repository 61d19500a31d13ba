use Rattle.std.proofs.Common.{◌∙◌}
use Rattle.mspec_syntax.proofs.RisingLemmas.{among-rank}
use Rattle.mspec_syntax.proofs.variables.Variables.contains.Goals as goal

pub returns : goal.returns
returns g c = c.is_some.ensures ∙ among-rank c.args.self.now c.args.number c.rank.result c.rank.ensures.found c.rank.ensures.missing
