use Rattle.std.proofs.Common.{subst, Some}
use Rattle.part_core.specs.Acts.{Act}
use Rattle.part_core.specs.Acts.Answer.{Replied}
use Rattle.part_core.specs.Ops.{said_of, scope_of}
use Rattle.part_core.specs.Replies.{most_counted}
use Rattle.tables.specs.Turns.{Turned, Follows}
use Rattle.parallel_select.proofs.VisitLemmas.{visit_told}
use Rattle.parallel_select.proofs.visits.visit.Goals as goal

pub take_in-requires : goal.take_in-requires
take_in-requires g c =
    let h = g.T.TryTurns.home c.args.turns.now in
    let before = g.T.TryTurns.sees c.args.turns.now in
    let now = g.T.TryTurns.sees c.turn_at.new.turns in
    visit_told h c.args.part c.args.asking c.args.gained.now c.args.query.now.code (scope_of c.args.scope) most_counted (said_of c.in_ok-reply.reply) before now c.requires.purpose (g.met.T.TryTurns.seen c.args.turns.now c.requires.ready)
    (subst (λ (act : Act). Follows before now (Turned h c.args.part act (Some (Replied (said_of c.in_ok-reply.reply))))) c.visit_op.ensures c.in_ok-reply.ensures.entry)
