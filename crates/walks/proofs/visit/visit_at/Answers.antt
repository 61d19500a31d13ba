use Rattle.part_core.specs.Ops.{said_of, scope_of}
use Rattle.walks.proofs.VisitLemmas.{visit_found}
use Rattle.walks.proofs.visit.visit_at.Goals as goal

pub found-requires : goal.found-requires
found-requires g c =
    visit_found (g.T.TryTurns.home c.args.turns.now) c.args.part c.args.code.now (scope_of c.args.scope) c.args.wanted (said_of c.in_ok-reply.reply)
    (g.T.TryTurns.sees c.args.turns.now) (g.T.TryTurns.sees c.turn_at.new.turns) (g.met.T.TryTurns.seen c.args.turns.now c.requires.ready) c.in_ok-reply.ensures.entry
