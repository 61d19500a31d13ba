-- Why calls are stopped.
use Rattle.std.proofs.Common.{ℕ, ◌≡◌, ◌<◌, refl, arith, None}
use Rattle.std.specs.Prelude.{IsFalse}
use Rattle.std.proofs.lemmas.Bool.{true≢false}
use Rattle.term_core.specs.Datum.{Datum}
use Rattle.part_core.specs.Acts.{Act}
use Rattle.part_core.specs.declared.fault.Fault.{Fault}
use Rattle.part_core.specs.declared.fault.Fault.TheVariants as fault
use Rattle.tables.specs.Brief.{was_made}
use Rattle.tables.specs.Calls.{RefusedByObject}
use Rattle.tables.specs.Turns.{Home, Views, TurnedByKey}
use Rattle.walks.specs.Keys.{Passed}
use Rattle.tables.specs.declared.brief.Halt.{Halt}
use Rattle.tables.specs.declared.brief.Halt.TheVariants as halt
use Rattle.host_session.specs.Going.{IsPause}
use Rattle.host_session.specs.Once.{StopsByKey, StopsByObject}
use Rattle.host_session.specs.Stops.{once_of, unmade_of}
use Rattle.host_session.specs.declared.stop.Stop.TheVariants as stop

pub stops_by_key : (h : Home) (k : Datum) (act : Act) (made : Halt) (v w : Views)
    → TurnedByKey h k act None v w → StopsByKey h k act (once_of fault.Memory made) v w
stops_by_key h k act halt.Nothing v w turned = turned
stops_by_key h k act halt.Busy v w turned = turned
stops_by_key h k act halt.Bound v w turned = turned

pub stops_by_object : (h : Home) (t : Datum) (act : Act) (f : Fault) (made : Halt) (v w : Views)
    → RefusedByObject h t act f v w → StopsByObject h t act (once_of f made) v w
stops_by_object h t act fault.Memory halt.Nothing v w refused = refused
stops_by_object h t act fault.Memory halt.Busy v w refused = refused
stops_by_object h t act fault.Memory halt.Bound v w refused = refused
stops_by_object h t act fault.TooSmall made v w refused = refused
stops_by_object h t act fault.FixLimit made v w refused = refused
stops_by_object h t act fault.NotFixed made v w refused = refused
stops_by_object h t act fault.BadKey made v w refused = refused
stops_by_object h t act fault.CursorOutside made v w refused = refused

-- what takes no memory isn't stopped for lack of it
pub once_made : (f : Fault) (made : Halt) → (f ≡ fault.Memory → IsFalse (was_made made)) → once_of f made ≡ stop.Memory → ⊥
once_made fault.Memory halt.Nothing put_off is = true≢false (put_off refl)
once_made fault.Memory halt.Busy put_off is = cc
once_made fault.Memory halt.Bound put_off is = cc
once_made fault.TooSmall made put_off is = cc
once_made fault.FixLimit made put_off is = cc
once_made fault.NotFixed made put_off is = cc
once_made fault.BadKey made put_off is = cc
once_made fault.CursorOutside made put_off is = cc

-- a turn that was not made is a pause
pub unmade_pauses : (made : Halt) → IsPause (unmade_of made)
unmade_pauses halt.Nothing = tt
unmade_pauses halt.Busy = tt
unmade_pauses halt.Bound = tt

-- no part is left
pub passed_none : (h : Home) (from : ℕ) (v : Views) → h.options.parts < from → Passed h from h.options.parts v v
passed_none h from v past = record { none = λ k low high. absurd (omega (arith, low, high, past)); rest = λ k outside. refl }
