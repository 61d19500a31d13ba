use Rattle.std.proofs.Common.{subst, Result}
use Rattle.part_core.specs.declared.fault.Fault.{Fault}
use Rattle.part_core.specs.declared.reply.Reply.{Reply}
use Rattle.part_core.specs.Acts.{Act}
use Rattle.part_core.specs.Acts.Act.{First}
use Rattle.part_core.specs.Acts.Answer.{Replied}
use Rattle.part_core.specs.Ops.{answer_in, said_of}
use Rattle.tables.specs.Options.{settings_of}
use Rattle.tables.specs.Turns.{Turned, Follows}
use Rattle.tables.proofs.TurnLemmas.{answered_so, only_memory}
use Rattle.walks.specs.Keys.{is_at_key}
use Rattle.walks.proofs.KeyLemmas.{first_key_said, first_done}
use Rattle.walks.proofs.keys.first_at.Goals as goal

pub key_in-requires : goal.key_in-requires
key_in-requires g c =
    let h = g.T.TryTurns.home c.args.turns.now in
    answered_so is_at_key h c.args.part First (Replied (said_of c.in-Ok.reply)) (g.T.TryTurns.sees c.args.turns.now) (g.T.TryTurns.sees c.turn_at.new.turns)
    (g.met.T.TryTurns.seen c.args.turns.now c.requires.ready)
    (subst (λ (r : Result (Reply _) Fault). Follows (g.T.TryTurns.sees c.args.turns.now) (g.T.TryTurns.sees c.turn_at.new.turns) (Turned h c.args.part First (answer_in r))) c.in-Ok.is (subst (λ (act : Act). Follows (g.T.TryTurns.sees c.args.turns.now) (g.T.TryTurns.sees c.turn_at.new.turns) (Turned h c.args.part act (answer_in c.turn_at.result))) c.first_op.ensures c.turn_at.ensures.entry))
    (λ s. first_key_said (settings_of h.options) s h.number)

pub returns-in-Err-clause-refused : goal.returns-in-Err-clause-refused
returns-in-Err-clause-refused g c =
    let h = g.T.TryTurns.home c.args.turns.now in
    only_memory h c.args.part First (g.T.TryTurns.sees c.args.turns.now) (g.T.TryTurns.sees c.turn_at.new.turns) c.in-Err.field-0
    (subst (λ (r : Result (Reply _) Fault). Follows (g.T.TryTurns.sees c.args.turns.now) (g.T.TryTurns.sees c.turn_at.new.turns) (Turned h c.args.part First (answer_in r))) c.in-Err.is (subst (λ (act : Act). Follows (g.T.TryTurns.sees c.args.turns.now) (g.T.TryTurns.sees c.turn_at.new.turns) (Turned h c.args.part act (answer_in c.turn_at.result))) c.first_op.ensures c.turn_at.ensures.entry))
    (λ s. first_done (settings_of h.options) s h.number)
