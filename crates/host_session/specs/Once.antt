-- What calls of one turn do if they are not done.
use Rattle.std.specs.Prelude.{◌≡◌, None, IsFalse}
use Rattle.term_core.specs.Datum.{Datum}
use Rattle.part_core.specs.Acts.{Act}
use Rattle.part_core.specs.Settings.{is_object}
use Rattle.tables.specs.Calls.{TurnedByObject}
use Rattle.tables.specs.Options.{settings_of}
use Rattle.tables.specs.Turns.{Home, Views, TurnedByKey}
use Rattle.host_session.specs.declared.stop.Stop.{Stop}
use Rattle.host_session.specs.declared.stop.Stop.TheVariants as stop

-- a call with a key: memory lacked, or another session had the part; there is no entry
abbrev pub StopsByKey : Home → Datum → Act → Stop → Views → Views → Type 0
StopsByKey h k act stop.Memory v w = TurnedByKey h k act None v w
StopsByKey h k act stop.Busy v w = TurnedByKey h k act None v w
StopsByKey h k act other v w = ⊥

-- a call with an object: the same, or the term is no object, and there is no turn
abbrev pub StopsByObject : Home → Datum → Act → Stop → Views → Views → Type 0
StopsByObject h t act stop.Memory v w = TurnedByObject h t act None v w
StopsByObject h t act stop.Busy v w = TurnedByObject h t act None v w
StopsByObject h t act stop.TooSmall v w = IsFalse (is_object (settings_of h.options) t) × (w ≡ v)
StopsByObject h t act other v w = ⊥
