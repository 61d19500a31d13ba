use Rattle.std.proofs.Common.{◌∙◌}
use Rattle.mspec_syntax.proofs.RankLemmas.{rank-found, rank-missing}
use Rattle.mspec_syntax.proofs.variables.Variables.count_before.Goals as goal

pub returns-in-Some : goal.returns-in-Some
returns-in-Some g c =
    rank-found c.args.self.now c.in-Some.rank c.args.number c.in-Some.ensures.in_order c.in-Some.ensures.found

pub returns-in-None : goal.returns-in-None
returns-in-None g c = c.len.ensures ∙ rank-missing c.args.self.now c.args.number c.in-None.ensures.missing
