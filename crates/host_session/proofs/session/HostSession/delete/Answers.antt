use Rattle.std.proofs.Common.{refl, Some, None}
use Rattle.part_core.specs.Acts.Act.{Delete}
use Rattle.part_core.specs.Acts.Answer.{Replied}
use Rattle.part_core.specs.Acts.Said.{Nothing}
use Rattle.tables.specs.Turns.{TurnedByKey}
use Rattle.host_session.proofs.DoesLemmas.{does_by}
use Rattle.host_session.proofs.session.HostSession.delete.Goals as goal

pub returns-in-Ok-clause-done : goal.returns-in-Ok-clause-done
returns-in-Ok-clause-done g c =
    does_by c.args.self.now.own c.brief-turns.result.session.now c.try_delete.new.turns.session.now c.brief-turns.result.session.ghost_name (λ h. TurnedByKey h c.args.key.now (Delete c.args.key.now) (Some (Replied Nothing))) c.brief-turns.ensures.session c.in-Ok.ensures.done

pub returns-in-Err-clause-stopped : goal.returns-in-Err-clause-stopped
returns-in-Err-clause-stopped g c =
    (refl, does_by c.args.self.now.own c.brief-turns.result.session.now c.try_delete.new.turns.session.now c.brief-turns.result.session.ghost_name (λ h. TurnedByKey h c.args.key.now (Delete c.args.key.now) None) c.brief-turns.ensures.session c.in-Err.ensures.put_off.1)
