use Rattle.std.proofs.Common.{subst, Result}
use Rattle.part_core.specs.declared.fault.Fault.{Fault}
use Rattle.part_core.specs.declared.reply.Reply.{Reply}
use Rattle.part_core.specs.Settings.{part_of}
use Rattle.part_core.specs.Acts.Act.{Take}
use Rattle.part_core.specs.Acts.Answer.{Replied}
use Rattle.part_core.specs.Ops.{answer_in, said_of}
use Rattle.tables.specs.Options.{settings_of}
use Rattle.tables.specs.Turns.{Turned, Follows}
use Rattle.tables.specs.Calls.{is_objects}
use Rattle.tables.proofs.ReplyLemmas.{take_objects, take_done}
use Rattle.tables.proofs.TurnLemmas.{answered_so, only_memory}
use Rattle.tables.proofs.calls.take.Goals as goal

pub objects-requires : goal.objects-requires
objects-requires g c =
    let h = g.T.TryTurns.home c.args.turns.now in
    let part = part_of (settings_of h.options) c.args.key.now in
    answered_so is_objects h part (Take c.args.key.now) (Replied (said_of c.in-Ok.reply)) (g.T.TryTurns.sees c.args.turns.now) (g.T.TryTurns.sees c.turn_by_key.new.turns)
    (g.met.T.TryTurns.seen c.args.turns.now c.requires)
    (subst (λ (r : Result (Reply _) Fault). Follows (g.T.TryTurns.sees c.args.turns.now) (g.T.TryTurns.sees c.turn_by_key.new.turns) (Turned h part (Take c.args.key.now) (answer_in r))) c.in-Ok.is c.turn_by_key.ensures.entry)
    (λ s. take_objects (settings_of h.options) c.args.key.now s h.number)

pub returns-in-Err-clause-refused : goal.returns-in-Err-clause-refused
returns-in-Err-clause-refused g c =
    let h = g.T.TryTurns.home c.args.turns.now in
    let part = part_of (settings_of h.options) c.args.key.now in
    only_memory h part (Take c.args.key.now) (g.T.TryTurns.sees c.args.turns.now) (g.T.TryTurns.sees c.turn_by_key.new.turns) c.in-Err.field-0
    (subst (λ (r : Result (Reply _) Fault). Follows (g.T.TryTurns.sees c.args.turns.now) (g.T.TryTurns.sees c.turn_by_key.new.turns) (Turned h part (Take c.args.key.now) (answer_in r))) c.in-Err.is c.turn_by_key.ensures.entry)
    (λ s. take_done (settings_of h.options) c.args.key.now s h.number)
