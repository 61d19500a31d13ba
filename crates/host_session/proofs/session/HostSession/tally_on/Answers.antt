use Rattle.std.proofs.Common.{sym, subst, refl}
use Rattle.walk_core.specs.Counting.{purpose_of}
use Rattle.walk_core.specs.Positions.{position_of}
use Rattle.walks.specs.Asked.{IsForeign, StopsTallying}
use Rattle.walks.specs.Query.{IsWithin}
use Rattle.table_sessions.specs.Own.{SeenBy, home_of}
use Rattle.table_sessions.specs.declared.own.OwnSession.{OwnSession}
use Rattle.host_session.specs.declared.under.Under.TheVariants as under
use Rattle.host_session.proofs.DoesLemmas.{does_by}
use Rattle.host_session.proofs.TallyLemmas.{tallied_over, tallies_stopped}
use Rattle.host_session.proofs.session.HostSession.tally_on.Goals as goal

pub returns-then-not-is_within-clause-went : goal.returns-then-not-is_within-clause-went
returns-then-not-is_within-clause-went g c =
    λ within v sees position. c.if-not-is_within.ensures (subst (λ (own : OwnSession _ _). IsWithin own.table.value.options c.args.tally.query c.args.tally.at) (sym c.brief-turns.ensures.session) within)

pub returns-in-Ok-clause-went : goal.returns-in-Ok-clause-went
returns-in-Ok-clause-went g c = (
  refl,
  c.count_on-counted.new.total,
  c.capped_sum-total.ensures,
  tallied_over c.args.self.now.own c.brief-turns.result.session.now c.count_on-counted.new.turns.session.now c.brief-turns.result.session.ghost_name (purpose_of c.args.tally.counting) c.args.tally.query
      (position_of c.args.tally.at) (position_of c.count_on-counted.new.at) c.count_on-counted.new.total c.brief-turns.ensures.session c.in-Ok.ensures.done.0 c.in-Ok.ensures.done.1,
)

pub returns-in-Err-clause-went : goal.returns-in-Err-clause-went
returns-in-Err-clause-went g c =
    let before = c.args.self.now.own in
    let begun = c.brief-turns.result.session.now in
    let now = c.count_on-counted.new.turns.session.now in
    let tally = c.args.tally in
    let at = c.count_on-counted.new.at in
    let more = c.count_on-counted.new.total in
    rw c.stop_of_visit.ensures (tallies_stopped before now tally (record { query = tally.query; counting = tally.counting; at = at; total = c.capped_sum-total.result }) more c.in-Err.fault c.count_on-counted.new.turns.halt
    (record { own = now; bounds = c.args.self.now.bounds; answers = c.args.self.now.answers; under = under.Tally (record { query = tally.query; counting = tally.counting; at = at; total = c.capped_sum-total.result }) }) refl refl refl c.capped_sum-total.ensures
    (λ scarce. does_by before begun now c.brief-turns.result.session.ghost_name (λ h. StopsTallying h (purpose_of tally.counting) tally.query (position_of tally.at) (position_of at) more) c.brief-turns.ensures.session
    (c.in-Err.ensures.stopped (rw scarce refl)))
    (λ other. subst (λ (own : OwnSession _ _). IsForeign (home_of own) (purpose_of tally.counting) tally.query (SeenBy own) (position_of tally.at)) c.brief-turns.ensures.session (c.in-Err.ensures.foreign other)))
