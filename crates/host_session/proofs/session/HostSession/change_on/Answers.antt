use Rattle.std.proofs.Common.{◌≡◌, refl, inl, inr, Some}
use Rattle.part_core.specs.Acts.Answer.{Replied}
use Rattle.part_core.specs.Acts.Said.{Nothing}
use Rattle.tables.specs.Fixing.{IsGrantedFrom, TurnedFrom, act_of_change}
use Rattle.host_session.proofs.DoesLemmas.{does_by}
use Rattle.host_session.proofs.StopLemmas.{unmade_pauses}
use Rattle.host_session.proofs.session.HostSession.change_on.Goals as goal

pub returns-then-not-is_granted_from-clause-went : goal.returns-then-not-is_granted_from-clause-went
returns-then-not-is_granted_from-clause-went g c =
    let begun = c.brief-turns.result.session in
    inl (
      refl,
      c.refusal_of.ensures,
      does_by c.args.self.now.own begun.now begun.now begun.ghost_name (λ h v w. (w ≡ v) × (¬ (IsGrantedFrom h c.args.from c.args.change v))) c.brief-turns.ensures.session (λ v sees. (v, sees, (refl, c.if-not-is_granted_from.ensures v sees))),
    )

pub returns-in-Some-clause-went : goal.returns-in-Some-clause-went
returns-in-Some-clause-went g c =
    inr (
      rw c.stop_of_halt.ensures (unmade_pauses c.change_from.new.turns.halt),
      c.in-Some.part,
      c.in-Some.ensures.put_off.0,
      refl,
      does_by c.args.self.now.own c.brief-turns.result.session.now c.change_from.new.turns.session.now c.brief-turns.result.session.ghost_name (λ h. TurnedFrom h c.args.from c.in-Some.part (act_of_change c.args.change) (Some (Replied Nothing))) c.brief-turns.ensures.session c.in-Some.ensures.turned,
    )
