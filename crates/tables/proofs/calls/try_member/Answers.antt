use Rattle.std.proofs.Common.{subst, ap, refl, Result}
use Rattle.std.specs.Result.{is_ok}
use Rattle.part_core.specs.Rows.{PartState}
use Rattle.part_core.specs.declared.fault.Fault.{Fault}
use Rattle.part_core.specs.declared.reply.Reply.{Reply}
use Rattle.part_core.specs.Settings.{part_of}
use Rattle.part_core.specs.Acts.Act.{Member}
use Rattle.part_core.specs.Acts.Answer.{Replied}
use Rattle.part_core.specs.Ops.{answer_in, said_of}
use Rattle.tables.specs.Options.{settings_of}
use Rattle.tables.specs.Turns.{Turned, Follows}
use Rattle.tables.specs.Calls.{is_flag}
use Rattle.tables.proofs.ReplyLemmas.{member_flag, member_done}
use Rattle.tables.proofs.TurnLemmas.{answered_so, only_memory, only_put_off}
use Rattle.tables.proofs.calls.try_member.Goals as goal

pub flag-requires : goal.flag-requires
flag-requires g c =
    let h = g.T.TryTurns.home c.args.turns.now in
    let part = part_of (settings_of h.options) c.args.key.now in
    answered_so is_flag h part (Member c.args.key.now) (Replied (said_of c.in-Ok.reply)) (g.T.TryTurns.sees c.args.turns.now) (g.T.TryTurns.sees c.turn_by_key.new.turns)
    (g.met.T.TryTurns.seen c.args.turns.now c.requires)
    (subst (λ (r : Result (Reply _) Fault). Follows (g.T.TryTurns.sees c.args.turns.now) (g.T.TryTurns.sees c.turn_by_key.new.turns) (Turned h part (Member c.args.key.now) (answer_in r))) c.in-Ok.is c.turn_by_key.ensures.entry)
    (λ s. member_flag (settings_of h.options) c.args.key.now s h.number)

pub returns-in-Err-clause-put_off : goal.returns-in-Err-clause-put_off
returns-in-Err-clause-put_off g c =
    let h = g.T.TryTurns.home c.args.turns.now in
    let part = part_of (settings_of h.options) c.args.key.now in
    let before = g.T.TryTurns.sees c.args.turns.now in
    let now = g.T.TryTurns.sees c.turn_by_key.new.turns in
    let never = λ (s : PartState). member_done (settings_of h.options) c.args.key.now s h.number in (
      only_put_off (g.T.TryTurns.is_made c.turn_by_key.new.turns) h part (Member c.args.key.now) before now c.turn_by_key.result
          (g.met.T.TryTurns.seen c.args.turns.now c.requires) c.turn_by_key.ensures.entry (λ made. c.turn_by_key.ensures.sure made refl) never (ap is_ok c.in-Err.is),
      only_memory h part (Member c.args.key.now) before now c.in-Err.field-0
          (subst (λ (r : Result (Reply _) Fault). Follows before now (Turned h part (Member c.args.key.now) (answer_in r))) c.in-Err.is c.turn_by_key.ensures.entry) never,
    )
