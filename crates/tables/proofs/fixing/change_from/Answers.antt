use Rattle.std.proofs.Common.{ℕ, ◌≡◌, ◌<◌, ◌≤◌, ap, subst, ◌∙◌, arith, option_map, Result}
use Rattle.std.specs.Result.{is_ok}
use Rattle.part_core.specs.declared.fault.Fault.{Fault}
use Rattle.part_core.specs.declared.reply.Reply.{Reply}
use Rattle.part_core.specs.Acts.{Act}
use Rattle.part_core.specs.Acts.Answer.{Replied, Refused}
use Rattle.part_core.specs.Ops.{act_of, answer_in, refusal_of, said_of, takes_no_memory}
use Rattle.tables.specs.Turns.{Home, Turned, Follows}
use Rattle.tables.specs.Fixing.{act_of_change}
use Rattle.tables.proofs.FixLemmas.{change_halts, change_put_off, change_step, change_sure}
use Rattle.tables.proofs.fixing.change_from.Goals as goal

pub returns-in-Err-clause-turned : goal.returns-in-Err-clause-turned
returns-in-Err-clause-turned g c =
    let before = g.T.TryTurns.sees c.args.turns.now in
    let now = g.T.TryTurns.sees c.loop-part.turns in
    let later = g.T.TryTurns.sees c.turn_at.new.turns in
    let h = g.T.TryTurns.home c.args.turns.now in
    let fits = g.met.T.TryTurns.fits c.args.turns.now c.requires.ready in
    let inside : c.loop-part.part < h.options.parts = omega (arith, c.loop-part-test.true, ap (λ (o : _). o.parts) c.options-part-end.ensures) in
    change_halts h c.args.change c.args.from c.loop-part.part before now later fits.1 c.loop-part.invariant.2 inside c.requires.granted c.loop-part.invariant.3 c.in-Err.field-0
    (subst (λ (r : Result (Reply _) Fault). Follows now later (Turned h c.loop-part.part (act_of_change c.args.change) (answer_in r))) c.in-Err.is
    (subst (λ (act : Act). Follows now later (Turned h c.loop-part.part act (answer_in c.turn_at.result))) c.op.ensures (subst (λ (home : Home). Follows now later (Turned home c.loop-part.part (act_of c.op.result) (answer_in c.turn_at.result))) c.loop-part.invariant.1 c.turn_at.ensures.entry)))

pub returns-in-Err-clause-put_off : goal.returns-in-Err-clause-put_off
returns-in-Err-clause-put_off g c =
    let before = g.T.TryTurns.sees c.args.turns.now in
    let now = g.T.TryTurns.sees c.loop-part.turns in
    let later = g.T.TryTurns.sees c.turn_at.new.turns in
    let h = g.T.TryTurns.home c.args.turns.now in
    let fits = g.met.T.TryTurns.fits c.args.turns.now c.requires.ready in
    let inside : c.loop-part.part < h.options.parts = omega (arith, c.loop-part-test.true, ap (λ (o : _). o.parts) c.options-part-end.ensures) in (
      c.loop-part.invariant.2,
      inside,
      change_put_off h c.args.change c.args.from c.loop-part.part before now later fits.1 c.loop-part.invariant.2 inside c.requires.granted c.loop-part.invariant.3
          (g.T.TryTurns.is_made c.turn_at.new.turns) c.turn_at.result (g.met.T.TryTurns.seen c.args.turns.now c.requires.ready)
          (subst (λ (act : Act). Follows now later (Turned h c.loop-part.part act (answer_in c.turn_at.result))) c.op.ensures (subst (λ (home : Home). Follows now later (Turned home c.loop-part.part (act_of c.op.result) (answer_in c.turn_at.result))) c.loop-part.invariant.1 c.turn_at.ensures.entry))
          (λ made. c.turn_at.ensures.sure made (ap takes_no_memory c.op.ensures ∙ change_sure c.args.change)) (ap is_ok c.in-Err.is),
    )

pub loop-part-preserved : goal.loop-part-preserved
loop-part-preserved g c =
    let before = g.T.TryTurns.sees c.args.turns.now in
    let now = g.T.TryTurns.sees c.loop-part.turns in
    let later = g.T.TryTurns.sees c.turn_at.new.turns in
    let h = g.T.TryTurns.home c.args.turns.now in
    let fits = g.met.T.TryTurns.fits c.args.turns.now c.requires.ready in
    let inside : c.loop-part.part < h.options.parts = omega (arith, c.loop-part-test.true, ap (λ (o : _). o.parts) c.options-part-end.ensures) in (
      c.turn_at.ensures.ready,
      c.turn_at.ensures.same ∙ c.loop-part.invariant.1,
      omega (arith, c.loop-part.invariant.2),
      change_step h c.args.change c.args.from c.loop-part.part before now later fits.1 c.loop-part.invariant.2 inside c.requires.granted c.loop-part.invariant.3 (Replied (said_of c.in-Ok.reply))
          (subst (λ (r : Result (Reply _) Fault). Follows now later (Turned h c.loop-part.part (act_of_change c.args.change) (answer_in r))) c.in-Ok.is
          (subst (λ (act : Act). Follows now later (Turned h c.loop-part.part act (answer_in c.turn_at.result))) c.op.ensures (subst (λ (home : Home). Follows now later (Turned home c.loop-part.part (act_of c.op.result) (answer_in c.turn_at.result))) c.loop-part.invariant.1 c.turn_at.ensures.entry))),
    )
