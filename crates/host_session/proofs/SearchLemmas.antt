-- Searches for keys that go on.
use Rattle.std.proofs.Common.{ℕ, ◌≡◌, ◌⊎◌, ◌+◌, refl, inl, inr, List, Some, None, Err}
use Rattle.term_core.specs.Datum.{Datum}
use Rattle.term_core.specs.declared.term.Term.{Term}
use Rattle.part_core.specs.Acts.Act.{Next}
use Rattle.part_core.specs.Acts.Answer.{Replied}
use Rattle.part_core.specs.Acts.Said.{AtKey}
use Rattle.part_core.specs.Settings as settings
use Rattle.part_core.specs.declared.fault.Fault.{Fault}
use Rattle.part_core.specs.declared.fault.Fault.TheVariants as fault
use Rattle.tables.specs.Options.{settings_of}
use Rattle.tables.specs.SessionFacts.{session_seen}
use Rattle.tables.specs.Turns.{Home, Views, Turned}
use Rattle.tables.specs.declared.brief.Halt.{Halt}
use Rattle.tables.specs.declared.brief.Halt.TheVariants as halt
use Rattle.walks.specs.Keys.{RefusedAt}
use Rattle.table_sessions.specs.Own.{Does}
use Rattle.table_sessions.specs.declared.own.OwnSession.{OwnSession}
use Rattle.host_session.specs.Going.{SearchesAfter, StopsFirst, Unfound, left_after}
use Rattle.host_session.specs.Stops.{part_of, unmade_of}
use Rattle.host_session.specs.declared.session.HostSession.{HostSession}
use Rattle.host_session.specs.declared.under.Under.TheVariants as under

abbrev pub key_part : Home → Datum → ℕ
key_part h key = settings.part_of (settings_of h.options) key

-- a session sees something
never : {P A : Type 0} (before now : OwnSession P A) → Does before now (λ h v w. ⊥) → ⊥
never before now (name, follows) =
    let s = session_seen before.seat.passes.items in
    let f = follows s.0 s.1 in
    f.2

-- no turn was made at the key's part
unturned : {P A : Type 0} (before now : OwnSession P A) (key : Datum) → Does before now (λ h. Turned h (key_part h key) (Next key) None)
    → Does before now (λ h v w. (w ≡ v) ⊎ Turned h (key_part h key) (Next key) None v w)
unturned before now key (name, follows) = (name, λ v b. let f = follows v b in (f.0, f.1, inr f.2))

pub searches_refused : {P A : Type 0} (before now : OwnSession P A) (key : Term A) (old : List Datum) (f : Fault) (made : Halt) (new : HostSession P A)
    → new.answers.items ≡ old → new.under ≡ left_after key (part_of f made)
    → Does before now (λ h. RefusedAt h (key_part h key) key f)
    → SearchesAfter before now key old new (Err (part_of f made))
searches_refused before now key old fault.Memory halt.Nothing new same left does = (tt, same, inl (left, unturned before now key does))
searches_refused before now key old fault.Memory halt.Busy new same left does = (tt, same, inl (left, unturned before now key does))
searches_refused before now key old fault.Memory halt.Bound new same left does = (tt, same, inl (left, unturned before now key does))
searches_refused before now key old fault.BadKey made new same left does = (left, same, does)
searches_refused before now key old fault.TooSmall made new same left does = absurd (never before now does)
searches_refused before now key old fault.FixLimit made new same left does = absurd (never before now does)
searches_refused before now key old fault.NotFixed made new same left does = absurd (never before now does)
searches_refused before now key old fault.CursorOutside made new same left does = absurd (never before now does)

-- the key's part has none after it, and a later part stops the search
abbrev pub StopsLater : {P A : Type 0} (before now : OwnSession P A) (key : Datum) (to : ℕ) → Type 0
StopsLater before now key to =
    Does before now (λ h v w. (u : Views) × Turned h (key_part h key) (Next key) (Some (Replied (AtKey None))) v u × StopsFirst h (key_part h key + 1) to u w)

later : {P A : Type 0} (before now : OwnSession P A) (key : Datum) (to : ℕ) → StopsLater before now key to
    → Does before now (λ h v w. (u : Views) × Turned h (key_part h key) (Next key) (Some (Replied (AtKey None))) v u × Unfound h (key_part h key + 1) to u w)
later before now key to (name, follows) = (name, λ v b. let f = follows v b in (f.0, f.1, (f.2.0, f.2.1, inr f.2.2)))

pub searches_stopped : {P A : Type 0} (before now : OwnSession P A) (key : Term A) (old : List Datum) (made : Halt) (new : HostSession P A) (to : ℕ)
    → new.answers.items ≡ old → new.under ≡ under.From to → StopsLater before now key to
    → SearchesAfter before now key old new (Err (unmade_of made))
searches_stopped before now key old halt.Nothing new to same left stops = (tt, same, inr (to, left, later before now key to stops))
searches_stopped before now key old halt.Busy new to same left stops = (tt, same, inr (to, left, later before now key to stops))
searches_stopped before now key old halt.Bound new to same left stops = (tt, same, inr (to, left, later before now key to stops))
