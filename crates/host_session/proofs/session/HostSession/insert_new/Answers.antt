use Rattle.std.proofs.Common.{Some}
use Rattle.part_core.specs.Acts.Act.{InsertNew}
use Rattle.part_core.specs.Acts.Answer.{Replied}
use Rattle.part_core.specs.Acts.Said.{Flag}
use Rattle.tables.specs.Calls.{RefusedByObject, TurnedByObject}
use Rattle.host_session.specs.Once.{StopsByObject}
use Rattle.host_session.specs.Stops.{once_of}
use Rattle.host_session.proofs.DoesLemmas.{does_by, does_so}
use Rattle.host_session.proofs.StopLemmas.{stops_by_object}
use Rattle.host_session.proofs.session.HostSession.insert_new.Goals as goal

pub returns-in-Ok-clause-done : goal.returns-in-Ok-clause-done
returns-in-Ok-clause-done g c =
    does_by c.args.self.now.own c.brief-turns.result.session.now c.insert_new.new.turns.session.now c.brief-turns.result.session.ghost_name (λ h. TurnedByObject h c.args.object (InsertNew c.args.object) (Some (Replied (Flag c.in-Ok.fresh)))) c.brief-turns.ensures.session c.in-Ok.ensures.done

pub returns-in-Err-clause-stopped : goal.returns-in-Err-clause-stopped
returns-in-Err-clause-stopped g c =
    rw c.stop_once.ensures (does_so c.args.self.now.own c.brief-turns.result.session.now c.insert_new.new.turns.session.now c.brief-turns.result.session.ghost_name (λ h. RefusedByObject h c.args.object (InsertNew c.args.object) c.in-Err.refused.fault) (λ h. StopsByObject h c.args.object (InsertNew c.args.object) (once_of c.in-Err.refused.fault c.insert_new.new.turns.halt)) (λ h v w. stops_by_object h c.args.object (InsertNew c.args.object) c.in-Err.refused.fault c.insert_new.new.turns.halt v w) c.brief-turns.ensures.session c.in-Err.ensures.refused)
