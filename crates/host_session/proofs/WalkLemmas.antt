-- Walks in pieces that go on.
use Rattle.std.proofs.Common.{ℕ, ◌≡◌, ◌≢◌, refl, sym, subst, List, [], Result, Ok, Err}
use Rattle.std.specs.Prelude.{Vec}
use Rattle.term_core.specs.Datum.{Datum}
use Rattle.term_core.specs.declared.term.Term.{Term}
use Rattle.part_core.specs.Acts.Purpose.{Answers}
use Rattle.tables.specs.Turns.{Home, Views, Follows}
use Rattle.tables.specs.declared.brief.Halt.{Halt}
use Rattle.tables.specs.declared.brief.Halt.TheVariants as halt
use Rattle.walk_core.specs.Positions.{position_of}
use Rattle.walks.specs.Asked.{IsForeign}
use Rattle.walks.specs.Pieces.{Continues, IsOwn, Keeps}
use Rattle.walks.specs.declared.continuation.Continuation.{Continuation}
use Rattle.walks.specs.declared.continuation.Step.{Step}
use Rattle.walks.specs.declared.continuation.Step.TheVariants as step
use Rattle.walks.specs.declared.fault.WalkFault.{WalkFault}
use Rattle.walks.specs.declared.fault.WalkFault.TheVariants as fault
use Rattle.table_sessions.specs.Own.{Does, SeenBy, home_by, home_of}
use Rattle.table_sessions.specs.declared.own.OwnSession.{OwnSession}
use Rattle.host_session.specs.Going.{TakesStep, WalksOn}
use Rattle.host_session.specs.Stops.{walk_of}
use Rattle.host_session.specs.declared.session.HostSession.{HostSession}
use Rattle.host_session.specs.declared.under.Progress.{Progress}
use Rattle.host_session.specs.declared.under.Progress.TheVariants as progress
use Rattle.host_session.specs.declared.under.Under.TheVariants as under

pub walks_by_step : {P A : Type 0} (before now : OwnSession P A) (walk : Continuation A) (old : List Datum) (s : Step A) (new : HostSession P A) (did : Progress)
    → TakesStep s new did → Does before now (λ h. Continues h walk s) → WalksOn before now walk old new (Ok did)
walks_by_step {P} {A} before now walk old (step.Piece answers next) new did (given, kept, is) does =
    subst (λ (p : Progress). WalksOn before now walk old new (Ok p)) (sym is)
    (next, kept, subst (λ (xs : Vec (Term A) A). Does before now (λ h. Continues h walk (step.Piece xs next))) (sym given) does)
walks_by_step before now walk old (step.End query) new did (none, ended, is) does =
    subst (λ (p : Progress). WalksOn before now walk old new (Ok p)) (sym is) (query, ended, none, does)

pub walks_stopped : {P A : Type 0} (before now : OwnSession P A) (walk next : Continuation A) (old : List Datum) (f : WalkFault) (made : Halt) (new : HostSession P A)
    → new.answers.items ≡ old → new.under ≡ under.Walk next
    → (f ≡ fault.Memory → Does before now (λ h. Keeps h walk next))
    → (f ≢ fault.Memory → (f ≡ fault.StrangerContinuation) × (IsOwn (home_of before) walk → IsForeign (home_of before) Answers walk.query (SeenBy before) (position_of walk.at)))
    → WalksOn before now walk old new (Err (walk_of f made))
walks_stopped before now walk next old fault.Memory halt.Nothing new same kept keeps foreign = (tt, same, next, kept, keeps refl)
walks_stopped before now walk next old fault.Memory halt.Busy new same kept keeps foreign = (tt, same, next, kept, keeps refl)
walks_stopped before now walk next old fault.Memory halt.Bound new same kept keeps foreign = (tt, same, next, kept, keeps refl)
walks_stopped before now walk next old fault.StrangerContinuation made new same kept keeps foreign = (foreign (λ e. cc)).1
walks_stopped before now walk next old fault.BadLimit made new same kept keeps foreign = absurd (other (foreign (λ e. cc)).0)
  where
    other : fault.BadLimit ≡ fault.StrangerContinuation → ⊥
    other e = cc
