use Rattle.std.proofs.Common.{ℕ, subst, Result, Some, None, ap}
use Rattle.part_core.specs.declared.fault.Fault.{Fault}
use Rattle.part_core.specs.declared.reply.Reply.{Reply}
use Rattle.part_core.specs.Acts.{is_refused}
use Rattle.part_core.specs.Acts.Act.{Insert}
use Rattle.part_core.specs.Acts.Answer.{Replied}
use Rattle.part_core.specs.Acts.Said.{Nothing}
use Rattle.part_core.specs.Ops.{answer_in, said_of}
use Rattle.tables.specs.Options.{settings_of}
use Rattle.tables.specs.Turns.{Turned, Follows}
use Rattle.tables.proofs.ReplyLemmas.{insert_said}
use Rattle.tables.proofs.TurnLemmas.{answered_as, only_memory}
use Rattle.tables.proofs.calls.insert.Goals as goal

pub returns-in-Ok-clause-done : goal.returns-in-Ok-clause-done
returns-in-Ok-clause-done g c = λ v before.
    let h = g.T.TryTurns.home c.args.turns.now in
    let t = answered_as h c.in-Some.part (Insert c.args.object) (Replied (said_of c.in-Ok.reply)) (Replied Nothing) (g.T.TryTurns.sees c.args.turns.now) (g.T.TryTurns.sees c.turn.new.self)
    (subst (λ (r : Result (Reply _) Fault). Follows (g.T.TryTurns.sees c.args.turns.now) (g.T.TryTurns.sees c.turn.new.self) (Turned h c.in-Some.part (Insert c.args.object) (answer_in r))) c.in-Ok.is c.turn.ensures.entry)
    (λ s. insert_said (settings_of h.options) c.args.object c.in-Some.ensures.0 s h.number) v before in
    (t.0, t.1, (c.in-Some.ensures.0, subst (λ (p : ℕ). Turned h p (Insert c.args.object) (Some (Replied Nothing)) v t.0) c.in-Some.ensures.1 t.2))

pub returns-in-Err-clause-refused : goal.returns-in-Err-clause-refused
returns-in-Err-clause-refused g c = λ v before.
    let h = g.T.TryTurns.home c.args.turns.now in
    let t = only_memory h c.in-Some.part (Insert c.args.object) (g.T.TryTurns.sees c.args.turns.now) (g.T.TryTurns.sees c.turn.new.self) c.in-Err.field-0
    (subst (λ (r : Result (Reply _) Fault). Follows (g.T.TryTurns.sees c.args.turns.now) (g.T.TryTurns.sees c.turn.new.self) (Turned h c.in-Some.part (Insert c.args.object) (answer_in r))) c.in-Err.is c.turn.ensures.entry)
    (λ s. ap is_refused (insert_said (settings_of h.options) c.args.object c.in-Some.ensures.0 s h.number)) v before in
    (t.0, t.1, (c.in-Some.ensures.0, subst (λ (p : ℕ). Turned h p (Insert c.args.object) None v t.0) c.in-Some.ensures.1 t.2))
