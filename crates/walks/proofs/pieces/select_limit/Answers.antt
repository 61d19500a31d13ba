use Rattle.std.proofs.lemmas.Result.{IfErr-weaker}
use Rattle.walks.proofs.pieces.select_limit.Goals as goal

pub returns-clause-refused : goal.returns-clause-refused
returns-clause-refused g c = IfErr-weaker c.select_first.result _ _ (λ refused told some. told) c.select_first.ensures.refused
