use Rattle.std.proofs.Common.{subst, Result, refl, ap}
use Rattle.std.specs.Result.{is_ok}
use Rattle.part_core.specs.declared.fault.Fault.{Fault}
use Rattle.part_core.specs.declared.reply.Reply.{Reply}
use Rattle.part_core.specs.Settings.{part_of}
use Rattle.part_core.specs.Acts.Act.{Delete}
use Rattle.part_core.specs.Acts.{is_refused}
use Rattle.part_core.specs.Acts.Answer.{Replied}
use Rattle.part_core.specs.Acts.Said.{Nothing}
use Rattle.part_core.specs.Ops.{answer_in, said_of}
use Rattle.part_core.specs.Rows.{PartState}
use Rattle.tables.specs.Options.{settings_of}
use Rattle.tables.specs.Turns.{Turned, Follows}
use Rattle.tables.proofs.ReplyLemmas.{delete_said}
use Rattle.tables.proofs.TurnLemmas.{answered_as, only_memory, only_put_off}
use Rattle.tables.proofs.calls.try_delete.Goals as goal

pub returns-in-Ok-clause-done : goal.returns-in-Ok-clause-done
returns-in-Ok-clause-done g c =
    let h = g.T.TryTurns.home c.args.turns.now in
    let part = part_of (settings_of h.options) c.args.key.now in
    let before = g.T.TryTurns.sees c.args.turns.now in
    let now = g.T.TryTurns.sees c.turn_by_key.new.turns in
    answered_as h part (Delete c.args.key.now) (Replied (said_of c.in-Ok.reply)) (Replied Nothing) before now
    (subst (λ (r : Result (Reply _) Fault). Follows before now (Turned h part (Delete c.args.key.now) (answer_in r))) c.in-Ok.is c.turn_by_key.ensures.entry)
    (λ s. delete_said (settings_of h.options) c.args.key.now s h.number)

pub returns-in-Err-clause-put_off : goal.returns-in-Err-clause-put_off
returns-in-Err-clause-put_off g c =
    let h = g.T.TryTurns.home c.args.turns.now in
    let part = part_of (settings_of h.options) c.args.key.now in
    let before = g.T.TryTurns.sees c.args.turns.now in
    let now = g.T.TryTurns.sees c.turn_by_key.new.turns in
    let never = λ (s : PartState). ap is_refused (delete_said (settings_of h.options) c.args.key.now s h.number) in (
      only_put_off (g.T.TryTurns.is_made c.turn_by_key.new.turns) h part (Delete c.args.key.now) before now c.turn_by_key.result
          (g.met.T.TryTurns.seen c.args.turns.now c.requires) c.turn_by_key.ensures.entry (λ made. c.turn_by_key.ensures.sure made refl) never (ap is_ok c.in-Err.is),
      only_memory h part (Delete c.args.key.now) before now c.in-Err.field-0
          (subst (λ (r : Result (Reply _) Fault). Follows before now (Turned h part (Delete c.args.key.now) (answer_in r))) c.in-Err.is c.turn_by_key.ensures.entry) never,
    )
