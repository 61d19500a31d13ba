use Rattle.std.proofs.Common.{[]}
use Rattle.std.proofs.lemmas.Result.{IfOk-weaker}
use Rattle.ets.specs.Queries.{to_come, start_in}
use Rattle.ets.specs.Shows.{home_of}
use Rattle.example.proofs.local.in_pieces.Goals as goal

pub returns : goal.returns
returns c =
    IfOk-weaker c.answers_after.result _ _ (λ answers after t at.
    let step = c.in_ok-step.ensures.done t at in
    after c.args.query c.args.limit (to_come c.args.query (start_in c.args.query t) [] t) t step.1 step.0.1)
    c.answers_after.ensures
