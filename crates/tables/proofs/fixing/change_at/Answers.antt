use Rattle.std.proofs.Common.{ap, subst, ◌∙◌, Result}
use Rattle.part_core.specs.declared.fault.Fault.{Fault}
use Rattle.part_core.specs.declared.reply.Reply.{Reply}
use Rattle.part_core.specs.Acts.{Act}
use Rattle.part_core.specs.Ops.{answer_in, said_of, takes_no_memory}
use Rattle.tables.specs.Turns.{Turned, Follows}
use Rattle.tables.specs.Fixing.{act_of_change}
use Rattle.tables.proofs.FixLemmas.{change_made, change_said, change_sure}
use Rattle.tables.proofs.fixing.change_at.Goals as goal

pub done-requires : goal.done-requires
done-requires g c =
    let h = g.T.TryTurns.home c.args.turns.now in
    let now = g.T.TryTurns.sees c.args.turns.now in
    let later = g.T.TryTurns.sees c.turn_at-outcome.new.turns in
    change_made h c.args.change c.args.part now later c.turn_at-outcome.result (g.met.T.TryTurns.fits c.args.turns.now c.requires.ready).1 c.requires.granted
    (subst (λ (act : Act). Follows now later (Turned h c.args.part act (answer_in c.turn_at-outcome.result))) c.op.ensures c.turn_at-outcome.ensures.entry)
    (c.turn_at-outcome.ensures.sure (g.met.T.Turns.sure c.turn_at-outcome.new.turns) (ap takes_no_memory c.op.ensures ∙ change_sure c.args.change))

pub returns-clause-done : goal.returns-clause-done
returns-clause-done g c =
    let h = g.T.TryTurns.home c.args.turns.now in
    let now = g.T.TryTurns.sees c.args.turns.now in
    let later = g.T.TryTurns.sees c.turn_at-outcome.new.turns in
    change_said h c.args.change c.args.part (said_of c.done.result) now later
    (subst (λ (r : Result (Reply _) Fault). Follows now later (Turned h c.args.part (act_of_change c.args.change) (answer_in r))) c.done.ensures
    (subst (λ (act : Act). Follows now later (Turned h c.args.part act (answer_in c.turn_at-outcome.result))) c.op.ensures c.turn_at-outcome.ensures.entry))
