use Rattle.std.proofs.Common.{subst, Result, refl}
use Rattle.part_core.specs.declared.fault.Fault.{Fault}
use Rattle.part_core.specs.declared.reply.Reply.{Reply}
use Rattle.part_core.specs.Settings.{part_of}
use Rattle.part_core.specs.Acts.Act.{Member}
use Rattle.part_core.specs.Acts.Answer.{Replied}
use Rattle.part_core.specs.Ops.{answer_in, said_of}
use Rattle.tables.specs.Options.{settings_of}
use Rattle.tables.specs.Turns.{Turned, Follows}
use Rattle.tables.specs.Calls.{is_flag}
use Rattle.tables.proofs.ReplyLemmas.{member_flag, member_done}
use Rattle.tables.proofs.TurnLemmas.{answered_so, never_refused}
use Rattle.tables.proofs.calls.member.Goals as goal

pub done-requires : goal.done-requires
done-requires g c =
    let h = g.T.TryTurns.home c.args.turns.now in
    never_refused h (part_of (settings_of h.options) c.args.key.now) (Member c.args.key.now) (g.T.TryTurns.sees c.args.turns.now) (g.T.TryTurns.sees c.turn_by_key.new.turns) c.turn_by_key.result
    (g.met.T.TryTurns.seen c.args.turns.now c.requires) c.turn_by_key.ensures.entry (c.turn_by_key.ensures.sure (g.met.T.Turns.sure c.turn_by_key.new.turns) refl)
    (λ s. member_done (settings_of h.options) c.args.key.now s h.number)

pub flag-requires : goal.flag-requires
flag-requires g c =
    let h = g.T.TryTurns.home c.args.turns.now in
    let part = part_of (settings_of h.options) c.args.key.now in
    answered_so is_flag h part (Member c.args.key.now) (Replied (said_of c.done.result)) (g.T.TryTurns.sees c.args.turns.now) (g.T.TryTurns.sees c.turn_by_key.new.turns)
    (g.met.T.TryTurns.seen c.args.turns.now c.requires)
    (subst (λ (r : Result (Reply _) Fault). Follows (g.T.TryTurns.sees c.args.turns.now) (g.T.TryTurns.sees c.turn_by_key.new.turns) (Turned h part (Member c.args.key.now) (answer_in r))) c.done.ensures c.turn_by_key.ensures.entry)
    (λ s. member_flag (settings_of h.options) c.args.key.now s h.number)
