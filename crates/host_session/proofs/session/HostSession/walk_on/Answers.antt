use Rattle.std.proofs.Common.{sym, subst, refl, Ok}
use Rattle.part_core.specs.Acts.Purpose.{Answers}
use Rattle.walk_core.specs.Positions.{position_of}
use Rattle.walks.specs.Asked.{IsForeign}
use Rattle.walks.specs.Pieces.{Continues, IsOwn, Keeps}
use Rattle.table_sessions.specs.Own.{SeenBy, home_of}
use Rattle.table_sessions.specs.declared.own.OwnSession.{OwnSession}
use Rattle.host_session.specs.Going.{WalksOn}
use Rattle.host_session.specs.declared.under.Under.TheVariants as under
use Rattle.host_session.proofs.DoesLemmas.{does_by}
use Rattle.host_session.proofs.WalkLemmas.{walks_by_step, walks_stopped}
use Rattle.host_session.proofs.session.HostSession.walk_on.Goals as goal

pub returns-in-Ok-clause-went : goal.returns-in-Ok-clause-went
returns-in-Ok-clause-went g c =
    let before = c.args.self.now.own in
    let now = c.select_more.new.turns.session.now in
    let items = c.args.self.now.answers.items in
    subst (λ (own : OwnSession _ _). WalksOn before own c.args.walk items c.take_step.new.self (Ok c.take_step.result)) (sym c.take_step.ensures.same.0)
    (walks_by_step before now c.args.walk items c.in-Ok.step c.take_step.new.self c.take_step.result c.take_step.ensures.took
    (does_by before c.brief-turns.result.session.now now c.brief-turns.result.session.ghost_name (λ h. Continues h c.args.walk c.in-Ok.step) c.brief-turns.ensures.session c.in-Ok.ensures.done))

pub returns-in-Err-clause-went : goal.returns-in-Err-clause-went
returns-in-Err-clause-went g c =
    let before = c.args.self.now.own in
    let begun = c.brief-turns.result.session.now in
    let now = c.select_more.new.turns.session.now in
    let walk = c.args.walk in
    rw c.stop_of_walk-stop.ensures (walks_stopped before now walk c.in-Err.refused.value c.args.self.now.answers.items c.in-Err.refused.fault c.select_more.new.turns.halt
    (record { own = now; bounds = c.args.self.now.bounds; answers = c.args.self.now.answers; under = under.Walk c.in-Err.refused.value }) refl refl
    (λ scarce. does_by before begun now c.brief-turns.result.session.ghost_name (λ h. Keeps h walk c.in-Err.refused.value) c.brief-turns.ensures.session (c.in-Err.ensures.kept scarce))
    (λ other. let foreign = c.in-Err.ensures.foreign other in (
      foreign.0,
      λ mine. subst (λ (own : OwnSession _ _). IsForeign (home_of own) Answers walk.query (SeenBy own) (position_of walk.at)) c.brief-turns.ensures.session
          (foreign.1 (subst (λ (own : OwnSession _ _). IsOwn (home_of own) walk) (sym c.brief-turns.ensures.session) mine)),
    )))
