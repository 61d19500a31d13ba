use Rattle.std.proofs.Common.{ℕ, subst, Result, None, ap}
use Rattle.part_core.specs.declared.fault.Fault.{Fault}
use Rattle.part_core.specs.declared.reply.Reply.{Reply}
use Rattle.part_core.specs.Acts.{is_refused}
use Rattle.part_core.specs.Acts.Act.{InsertNew}
use Rattle.part_core.specs.Acts.Answer.{Replied}
use Rattle.part_core.specs.Ops.{answer_in, said_of}
use Rattle.tables.specs.Options.{settings_of}
use Rattle.tables.specs.Turns.{Turned, Follows}
use Rattle.tables.specs.Calls.{is_flag}
use Rattle.tables.proofs.ReplyLemmas.{insert_new_said}
use Rattle.tables.proofs.TurnLemmas.{answered_so, only_memory}
use Rattle.tables.proofs.calls.insert_new.Goals as goal

pub flag-requires : goal.flag-requires
flag-requires g c =
    let h = g.T.TryTurns.home c.args.turns.now in
    answered_so is_flag h c.in-Some.part (InsertNew c.args.object) (Replied (said_of c.in-Ok.reply)) (g.T.TryTurns.sees c.args.turns.now) (g.T.TryTurns.sees c.turn.new.self)
    (g.met.T.TryTurns.seen c.args.turns.now c.requires)
    (subst (λ (r : Result (Reply _) Fault). Follows (g.T.TryTurns.sees c.args.turns.now) (g.T.TryTurns.sees c.turn.new.self) (Turned h c.in-Some.part (InsertNew c.args.object) (answer_in r))) c.in-Ok.is c.turn.ensures.entry)
    (λ s. ap is_flag (insert_new_said (settings_of h.options) c.args.object c.in-Some.ensures.0 s h.number))

pub returns-in-Err-clause-refused : goal.returns-in-Err-clause-refused
returns-in-Err-clause-refused g c = λ v before.
    let h = g.T.TryTurns.home c.args.turns.now in
    let t = only_memory h c.in-Some.part (InsertNew c.args.object) (g.T.TryTurns.sees c.args.turns.now) (g.T.TryTurns.sees c.turn.new.self) c.in-Err.field-0
    (subst (λ (r : Result (Reply _) Fault). Follows (g.T.TryTurns.sees c.args.turns.now) (g.T.TryTurns.sees c.turn.new.self) (Turned h c.in-Some.part (InsertNew c.args.object) (answer_in r))) c.in-Err.is c.turn.ensures.entry)
    (λ s. ap is_refused (insert_new_said (settings_of h.options) c.args.object c.in-Some.ensures.0 s h.number)) v before in
    (t.0, t.1, (c.in-Some.ensures.0, subst (λ (p : ℕ). Turned h p (InsertNew c.args.object) None v t.0) c.in-Some.ensures.1 t.2))
