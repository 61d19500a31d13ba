use Rattle.std.proofs.lemmas.Result.{err_from_is_err_and}
use Rattle.part_core.specs.Acts.Act.{Next}
use Rattle.part_core.specs.Acts.Answer.{Replied}
use Rattle.part_core.specs.Ops.{said_of}
use Rattle.tables.specs.Options.{settings_of}
use Rattle.tables.proofs.TurnLemmas.{answered_so}
use Rattle.walks.proofs.KeyLemmas.{is_next, next_said, next_is_key, next_refused}
use Rattle.walks.proofs.keys.next_at.Goals as goal

pub key_in-requires : goal.key_in-requires
key_in-requires g c =
    let h = g.T.TryTurns.home c.args.turns.now in
    next_is_key (said_of c.in_ok-reply.reply)
    (answered_so is_next h c.args.part (Next c.args.key.now) (Replied (said_of c.in_ok-reply.reply)) (g.T.TryTurns.sees c.args.turns.now) (g.T.TryTurns.sees c.turn_at.new.turns)
    (g.met.T.TryTurns.seen c.args.turns.now c.requires.ready)
    c.in_ok-reply.ensures.entry
    (λ s. next_said (settings_of h.options) c.args.key.now s h.number))

pub returns-in_err-reply-clause-refused : goal.returns-in_err-reply-clause-refused
returns-in_err-reply-clause-refused g c =
    let h = g.T.TryTurns.home c.args.turns.now in
    let back = err_from_is_err_and c.from_residual.result c.from_residual.ensures.1 in
    rw (back.1, back.2) (next_refused h c.args.part c.args.key.now (g.T.TryTurns.sees c.args.turns.now) (g.T.TryTurns.sees c.turn_at.new.turns) _ c.in_err-reply.ensures.entry)
