use Rattle.std.proofs.Common.{ℕ, subst, Result, Some, None, refl, ap}
use Rattle.std.specs.Result.{is_ok}
use Rattle.part_core.specs.declared.fault.Fault.{Fault}
use Rattle.part_core.specs.declared.reply.Reply.{Reply}
use Rattle.part_core.specs.Acts.{is_refused}
use Rattle.part_core.specs.Acts.Act.{DeleteObject}
use Rattle.part_core.specs.Acts.Answer.{Replied}
use Rattle.part_core.specs.Acts.Said.{Nothing}
use Rattle.part_core.specs.Ops.{answer_in, said_of}
use Rattle.tables.specs.Options.{settings_of}
use Rattle.tables.specs.Turns.{Turned, Follows}
use Rattle.tables.proofs.ReplyLemmas.{delete_object_said}
use Rattle.tables.proofs.TurnLemmas.{answered_as, only_memory, only_put_off}
use Rattle.tables.proofs.calls.try_delete_object.Goals as goal

pub returns-in-Ok-clause-done : goal.returns-in-Ok-clause-done
returns-in-Ok-clause-done g c = λ v before.
    let h = g.T.TryTurns.home c.args.turns.now in
    let t = answered_as h c.in-Some.part (DeleteObject c.args.object.now) (Replied (said_of c.in-Ok.reply)) (Replied Nothing) (g.T.TryTurns.sees c.args.turns.now) (g.T.TryTurns.sees c.turn_at.new.turns)
    (subst (λ (r : Result (Reply _) Fault). Follows (g.T.TryTurns.sees c.args.turns.now) (g.T.TryTurns.sees c.turn_at.new.turns) (Turned h c.in-Some.part (DeleteObject c.args.object.now) (answer_in r))) c.in-Ok.is c.turn_at.ensures.entry)
    (λ s. delete_object_said (settings_of h.options) c.args.object.now c.in-Some.ensures.0 s h.number) v before in
    (t.0, t.1, (c.in-Some.ensures.0, subst (λ (p : ℕ). Turned h p (DeleteObject c.args.object.now) (Some (Replied Nothing)) v t.0) c.in-Some.ensures.1 t.2))

pub returns-in-Err-clause-refused : goal.returns-in-Err-clause-refused
returns-in-Err-clause-refused g c = λ v before.
    let h = g.T.TryTurns.home c.args.turns.now in
    let t = only_memory h c.in-Some.part (DeleteObject c.args.object.now) (g.T.TryTurns.sees c.args.turns.now) (g.T.TryTurns.sees c.turn_at.new.turns) c.in-Err.field-0
    (subst (λ (r : Result (Reply _) Fault). Follows (g.T.TryTurns.sees c.args.turns.now) (g.T.TryTurns.sees c.turn_at.new.turns) (Turned h c.in-Some.part (DeleteObject c.args.object.now) (answer_in r))) c.in-Err.is c.turn_at.ensures.entry)
    (λ s. ap is_refused (delete_object_said (settings_of h.options) c.args.object.now c.in-Some.ensures.0 s h.number)) v before in
    (t.0, t.1, (c.in-Some.ensures.0, subst (λ (p : ℕ). Turned h p (DeleteObject c.args.object.now) None v t.0) c.in-Some.ensures.1 t.2))

pub returns-in-Err-clause-put_off : goal.returns-in-Err-clause-put_off
returns-in-Err-clause-put_off g c =
    let h = g.T.TryTurns.home c.args.turns.now in
    λ memory. only_put_off (g.T.TryTurns.is_made c.turn_at.new.turns) h c.in-Some.part (DeleteObject c.args.object.now) (g.T.TryTurns.sees c.args.turns.now) (g.T.TryTurns.sees c.turn_at.new.turns) c.turn_at.result
    (g.met.T.TryTurns.seen c.args.turns.now c.requires) c.turn_at.ensures.entry (λ made. c.turn_at.ensures.sure made refl)
    (λ s. ap is_refused (delete_object_said (settings_of h.options) c.args.object.now c.in-Some.ensures.0 s h.number)) (ap is_ok c.in-Err.is)
