use Rattle.std.proofs.Common.{◌<◌, refl, inl, inr, subst, None}
use Rattle.tables.specs.declared.options.Options.{Options}
use Rattle.table_sessions.specs.Own.{home_by}
use Rattle.walks.specs.Keys.{FoundFirst}
use Rattle.host_session.specs.Going.{StopsFirst, Unfound}
use Rattle.host_session.proofs.DoesLemmas.{does_by, does_so}
use Rattle.host_session.proofs.StopLemmas.{passed_none, unmade_pauses}
use Rattle.host_session.proofs.session.HostSession.search_from.Goals as goal

pub returns-in_default-clause-went : goal.returns-in_default-clause-went
returns-in_default-clause-went g c = (tt, refl, c.args.from, refl, (0, λ v sees. (v, sees, inl (refl, refl))))

pub returns-then-options-from-clause-went : goal.returns-then-options-from-clause-went
returns-then-options-from-clause-went g c =
    (refl, None, c.in-Ok.ensures.items, (0, λ v sees. (v, sees, passed_none (home_by c.args.self.now.own 0) c.args.from v (subst (λ (o : Options). o.parts < c.args.from) c.options.ensures c.if-options-from.true))))

pub returns-in-Ok-first_on-clause-went : goal.returns-in-Ok-first_on-clause-went
returns-in-Ok-first_on-clause-went g c = (
  refl,
  c.in-Ok-first_on.key,
  c.with_key.ensures,
  does_by c.args.self.now.own c.brief-turns.result.session.now c.first_on.new.turns.session.now c.brief-turns.result.session.ghost_name (λ h. FoundFirst h c.args.from c.in-Ok-first_on.key) c.brief-turns.ensures.session c.in-Ok-first_on.ensures.done,
)

pub returns-in-Err-clause-went : goal.returns-in-Err-clause-went
returns-in-Err-clause-went g c = (
  rw c.stop_of_halt-stop.ensures (unmade_pauses c.first_on.new.turns.halt),
  refl,
  c.in-Err.part,
  refl,
  does_so c.args.self.now.own c.brief-turns.result.session.now c.first_on.new.turns.session.now c.brief-turns.result.session.ghost_name (λ h. StopsFirst h c.args.from c.in-Err.part) (λ h. Unfound h c.args.from c.in-Err.part) (λ h v w stops. inr stops) c.brief-turns.ensures.session c.in-Err.ensures.stopped,
)
