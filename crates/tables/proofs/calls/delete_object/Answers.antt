use Rattle.std.proofs.Common.{ℕ, subst, Result, Some, refl, ap}
use Rattle.part_core.specs.declared.fault.Fault.{Fault}
use Rattle.part_core.specs.declared.reply.Reply.{Reply}
use Rattle.part_core.specs.Acts.{is_refused}
use Rattle.part_core.specs.Acts.Act.{DeleteObject}
use Rattle.part_core.specs.Acts.Answer.{Replied}
use Rattle.part_core.specs.Acts.Said.{Nothing}
use Rattle.part_core.specs.Ops.{answer_in, said_of}
use Rattle.tables.specs.Options.{settings_of}
use Rattle.tables.specs.Turns.{Turned, Follows}
use Rattle.tables.proofs.ReplyLemmas.{delete_object_said}
use Rattle.tables.proofs.TurnLemmas.{answered_as, never_refused}
use Rattle.tables.proofs.calls.delete_object.Goals as goal

pub done-requires : goal.done-requires
done-requires g c =
    let h = g.T.TryTurns.home c.args.turns.now in
    never_refused h c.in-Some.part (DeleteObject c.args.object.now) (g.T.TryTurns.sees c.args.turns.now) (g.T.TryTurns.sees c.turn_at.new.turns) c.turn_at.result
    (g.met.T.TryTurns.seen c.args.turns.now c.requires) c.turn_at.ensures.entry (c.turn_at.ensures.sure (g.met.T.Turns.sure c.turn_at.new.turns) refl)
    (λ s. ap is_refused (delete_object_said (settings_of h.options) c.args.object.now c.in-Some.ensures.0 s h.number))

pub returns-clause-done : goal.returns-clause-done
returns-clause-done g c = λ v before.
    let h = g.T.TryTurns.home c.args.turns.now in
    let t = answered_as h c.in-Some.part (DeleteObject c.args.object.now) (Replied (said_of c.done.result)) (Replied Nothing) (g.T.TryTurns.sees c.args.turns.now) (g.T.TryTurns.sees c.turn_at.new.turns)
    (subst (λ (r : Result (Reply _) Fault). Follows (g.T.TryTurns.sees c.args.turns.now) (g.T.TryTurns.sees c.turn_at.new.turns) (Turned h c.in-Some.part (DeleteObject c.args.object.now) (answer_in r))) c.done.ensures c.turn_at.ensures.entry)
    (λ s. delete_object_said (settings_of h.options) c.args.object.now c.in-Some.ensures.0 s h.number) v before in
    (t.0, t.1, (c.in-Some.ensures.0, subst (λ (p : ℕ). Turned h p (DeleteObject c.args.object.now) (Some (Replied Nothing)) v t.0) c.in-Some.ensures.1 t.2))
