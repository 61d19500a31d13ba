use Rattle.std.proofs.Common.{Some}
use Rattle.part_core.specs.Acts.Act.{DeleteObject}
use Rattle.part_core.specs.Acts.Answer.{Replied}
use Rattle.part_core.specs.Acts.Said.{Nothing}
use Rattle.tables.specs.Calls.{RefusedByObject, TurnedByObject}
use Rattle.host_session.specs.Once.{StopsByObject}
use Rattle.host_session.specs.Stops.{once_of}
use Rattle.host_session.proofs.DoesLemmas.{does_by, does_so}
use Rattle.host_session.proofs.StopLemmas.{once_made, stops_by_object}
use Rattle.host_session.proofs.session.HostSession.delete_object.Goals as goal

pub returns-in-Ok-clause-done : goal.returns-in-Ok-clause-done
returns-in-Ok-clause-done g c =
    does_by c.args.self.now.own c.brief-turns.result.session.now c.try_delete_object.new.turns.session.now c.brief-turns.result.session.ghost_name (λ h. TurnedByObject h c.args.object.now (DeleteObject c.args.object.now) (Some (Replied Nothing))) c.brief-turns.ensures.session c.in-Ok.ensures.done

pub returns-in-Err-clause-stopped : goal.returns-in-Err-clause-stopped
returns-in-Err-clause-stopped g c =
    rw c.stop_once.ensures (once_made c.in-Err.fault c.try_delete_object.new.turns.halt c.in-Err.ensures.put_off, does_so c.args.self.now.own c.brief-turns.result.session.now c.try_delete_object.new.turns.session.now c.brief-turns.result.session.ghost_name (λ h. RefusedByObject h c.args.object.now (DeleteObject c.args.object.now) c.in-Err.fault) (λ h. StopsByObject h c.args.object.now (DeleteObject c.args.object.now) (once_of c.in-Err.fault c.try_delete_object.new.turns.halt)) (λ h v w. stops_by_object h c.args.object.now (DeleteObject c.args.object.now) c.in-Err.fault c.try_delete_object.new.turns.halt v w) c.brief-turns.ensures.session c.in-Err.ensures.refused)
