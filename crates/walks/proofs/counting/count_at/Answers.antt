use Rattle.std.proofs.Common.{subst, Some}
use Rattle.part_core.specs.Acts.{Act}
use Rattle.part_core.specs.Acts.Answer.{Replied}
use Rattle.part_core.specs.Ops.{said_of, scope_of}
use Rattle.part_core.specs.Replies.{most_counted}
use Rattle.tables.specs.Turns.{Turned, Follows}
use Rattle.walks.proofs.VisitLemmas.{visit_counted}
use Rattle.walks.proofs.counting.count_at.Goals as goal

pub counted-requires : goal.counted-requires
counted-requires g c =
    let h = g.T.TryTurns.home c.args.turns.now in
    let before = g.T.TryTurns.sees c.args.turns.now in
    let now = g.T.TryTurns.sees c.turn_at.new.turns in
    visit_counted h c.args.part c.args.counting c.args.code.now (scope_of c.args.scope) most_counted (said_of c.in_ok-reply.reply) before now (g.met.T.TryTurns.seen c.args.turns.now c.requires.ready)
    (subst (λ (act : Act). Follows before now (Turned h c.args.part act (Some (Replied (said_of c.in_ok-reply.reply))))) c.count_op.ensures c.in_ok-reply.ensures.entry)
