use Rattle.std.proofs.Common.{refl, Some, None}
use Rattle.part_core.specs.Acts.Act.{Take}
use Rattle.part_core.specs.Acts.Answer.{Replied}
use Rattle.part_core.specs.Acts.Said.{Objects}
use Rattle.tables.specs.Turns.{TurnedByKey}
use Rattle.host_session.specs.Once.{StopsByKey}
use Rattle.part_core.specs.declared.fault.Fault.TheVariants as fault
use Rattle.host_session.specs.Stops.{once_of}
use Rattle.host_session.proofs.DoesLemmas.{does_by, does_so}
use Rattle.host_session.proofs.StopLemmas.{stops_by_key}
use Rattle.host_session.proofs.session.HostSession.take.Goals as goal

pub returns-in-Ok-clause-done : goal.returns-in-Ok-clause-done
returns-in-Ok-clause-done g c =
    does_by c.args.self.now.own c.brief-turns.result.session.now c.take.new.turns.session.now c.brief-turns.result.session.ghost_name (λ h. TurnedByKey h c.args.key.now (Take c.args.key.now) (Some (Replied (Objects c.in-Ok.found.items)))) c.brief-turns.ensures.session c.in-Ok.ensures.done

pub returns-in-Err-clause-stopped : goal.returns-in-Err-clause-stopped
returns-in-Err-clause-stopped g c =
    rw c.stop_once.ensures (refl, does_so c.args.self.now.own c.brief-turns.result.session.now c.take.new.turns.session.now c.brief-turns.result.session.ghost_name (λ h. TurnedByKey h c.args.key.now (Take c.args.key.now) None) (λ h. StopsByKey h c.args.key.now (Take c.args.key.now) (once_of fault.Memory c.take.new.turns.halt)) (λ h v w. stops_by_key h c.args.key.now (Take c.args.key.now) c.take.new.turns.halt v w) c.brief-turns.ensures.session c.in-Err.ensures.refused)
