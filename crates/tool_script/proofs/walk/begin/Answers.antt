use Rattle.std.proofs.lemmas.Result.{IfOk-weaker}
use Rattle.tool_script.specs.Replies.{reply_term}
use Rattle.tool_script.proofs.SelectLemmas.{begun_done}
use Rattle.tool_script.proofs.walk.begin.Goals as goal

pub returns-in-Ok-clause-answered : goal.returns-in-Ok-clause-answered
returns-in-Ok-clause-answered g c =
    let turns = g.T.TryTurns in
    IfOk-weaker c.keep.result _ _ (λ reply kept. begun_done c.steps_are_pieces.ensures (turns.home c.args.turns.now) (turns.sees c.args.turns.now) (turns.sees c.select_first.new.turns) c.args.walks.now c.keep.new.self c.args.query c.args.limit c.in-Ok.step (reply_term reply) c.requires.alone (g.met.T.TryTurns.fits c.args.turns.now c.requires.ready).0
    (λ v before. ((c.in-Ok.ensures.done v before).0, (c.in-Ok.ensures.done v before).1, (c.in-Ok.ensures.done v before).2.0)) kept)
    c.keep.ensures
