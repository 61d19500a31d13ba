use Rattle.std.proofs.Common.{◌+◌, refl, inl, Some, None}
use Rattle.part_core.specs.Acts.Act.{Next}
use Rattle.part_core.specs.Acts.Answer.{Replied}
use Rattle.part_core.specs.Acts.Said.{AtKey}
use Rattle.tables.specs.Turns.{Views, Turned}
use Rattle.walks.specs.Keys.{FoundNext, RefusedAt}
use Rattle.host_session.specs.Going.{StopsFirst}
use Rattle.host_session.specs.declared.under.Under.TheVariants as under
use Rattle.host_session.proofs.DoesLemmas.{does_by}
use Rattle.host_session.proofs.SearchLemmas.{key_part, searches_refused, searches_stopped}
use Rattle.host_session.proofs.session.HostSession.search_after.Goals as goal

pub returns-in_default-clause-went : goal.returns-in_default-clause-went
returns-in_default-clause-went g c = (tt, refl, inl (refl, (0, λ v sees. (v, sees, inl refl))))

pub returns-in-Found-clause-went : goal.returns-in-Found-clause-went
returns-in-Found-clause-went g c = (
  refl,
  c.in-Found.next,
  c.with_key.ensures,
  does_by c.args.self.now.own c.brief-turns.result.session.now c.next_on.new.turns.session.now c.brief-turns.result.session.ghost_name (λ h. FoundNext h c.args.key c.in-Found.next) c.brief-turns.ensures.session c.in-Found.ensures.went,
)

pub returns-in-From-clause-went : goal.returns-in-From-clause-went
returns-in-From-clause-went g c =
    rw c.stop_of_halt-stop.ensures (searches_stopped c.args.self.now.own c.next_on.new.turns.session.now c.args.key c.args.self.now.answers.items c.next_on.new.turns.halt
    (record { own = c.next_on.new.turns.session.now; bounds = c.args.self.now.bounds; answers = c.args.self.now.answers; under = under.From c.in-From.part }) c.in-From.part refl refl
    (does_by c.args.self.now.own c.brief-turns.result.session.now c.next_on.new.turns.session.now c.brief-turns.result.session.ghost_name
    (λ h v w. (u : Views) × Turned h (key_part h c.args.key) (Next c.args.key) (Some (Replied (AtKey None))) v u × StopsFirst h (key_part h c.args.key + 1) c.in-From.part u w)
    c.brief-turns.ensures.session c.in-From.ensures.went))

pub returns-in-Refused-clause-went : goal.returns-in-Refused-clause-went
returns-in-Refused-clause-went g c =
    rw c.stop_at_part-stop.ensures (searches_refused c.args.self.now.own c.next_on.new.turns.session.now c.args.key c.args.self.now.answers.items c.in-Refused.fault c.next_on.new.turns.halt (record { own = c.next_on.new.turns.session.now; bounds = c.args.self.now.bounds; answers = c.args.self.now.answers; under = c.left_after.result }) refl (rw (← c.stop_at_part-stop.ensures) c.left_after.ensures)
    (does_by c.args.self.now.own c.brief-turns.result.session.now c.next_on.new.turns.session.now c.brief-turns.result.session.ghost_name (λ h. RefusedAt h (key_part h c.args.key) c.args.key c.in-Refused.fault) c.brief-turns.ensures.session c.in-Refused.ensures.went))
