-- Why a call of a session is not done, by the fault that it met and by why its last turn was put off.
use Rattle.part_core.specs.declared.fault.Fault.{Fault}
use Rattle.part_core.specs.declared.fault.Fault.TheVariants as fault
use Rattle.tables.specs.declared.brief.Halt.{Halt}
use Rattle.tables.specs.declared.brief.Halt.TheVariants as halt
use Rattle.walks.specs.declared.fault.WalkFault.{WalkFault}
use Rattle.walks.specs.declared.fault.WalkFault.TheVariants as walk
use Rattle.host_session.specs.declared.stop.Stop.{Stop}
use Rattle.host_session.specs.declared.stop.Stop.TheVariants as stop

-- an allocation failed, or the turn was put off
abbrev pub unmade_of : Halt → Stop
unmade_of halt.Nothing = stop.Memory
unmade_of halt.Busy = stop.Busy
unmade_of halt.Bound = stop.Bound

-- a turn at a part
abbrev pub part_of : Fault → Halt → Stop
part_of fault.Memory h = unmade_of h
part_of fault.TooSmall h = stop.TooSmall
part_of fault.FixLimit h = stop.FixLimit
part_of fault.NotFixed h = stop.NotFixed
part_of fault.BadKey h = stop.BadKey
part_of fault.CursorOutside h = stop.Stranger

-- the one turn of a call: that it was put off means that another session had the part
abbrev pub once_of : Fault → Halt → Stop
once_of fault.Memory halt.Nothing = stop.Memory
once_of fault.Memory halt.Busy = stop.Busy
once_of fault.Memory halt.Bound = stop.Busy
once_of fault.TooSmall h = stop.TooSmall
once_of fault.FixLimit h = stop.FixLimit
once_of fault.NotFixed h = stop.NotFixed
once_of fault.BadKey h = stop.BadKey
once_of fault.CursorOutside h = stop.Stranger

-- a visit of a walk
abbrev pub walk_of : WalkFault → Halt → Stop
walk_of walk.Memory h = unmade_of h
walk_of walk.StrangerContinuation h = stop.Stranger
walk_of walk.BadLimit h = stop.BadLimit

-- a visit that counts or deletes
abbrev pub visit_of : Fault → Halt → Stop
visit_of fault.Memory h = unmade_of h
visit_of other h = stop.Stranger
