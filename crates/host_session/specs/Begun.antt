-- How calls of many turns begin.
use Rattle.std.specs.Prelude.{ℕ, ◌≡◌, ◌⊎◌, []}
use Rattle.term_core.specs.Datum.{Datum}
use Rattle.term_core.specs.declared.fault.Refused.{Refused}
use Rattle.part_core.specs.Acts.Purpose.{Answers}
use Rattle.tables.specs.declared.fixing.Change.{Change}
use Rattle.tables.specs.declared.fixing.Change.TheVariants as change
use Rattle.walk_core.specs.declared.counting.Counting.{Counting}
use Rattle.walk_core.specs.Counting.{purpose_of}
use Rattle.walk_core.specs.Positions.{position_of}
use Rattle.walk_core.specs.Walk.{start_of}
use Rattle.walk_query.specs.declared.query.Query.{Query}
use Rattle.walks.specs.declared.continuation.Continuation.{Continuation}
use Rattle.walks.specs.Pieces.{IsWalkOf}
use Rattle.walks.specs.Query.{kept_of, walk_of}
use Rattle.table_sessions.specs.Own.{home_of}
use Rattle.host_session.specs.declared.session.HostSession.{HostSession}
use Rattle.host_session.specs.declared.stop.Stop.{Stop}
use Rattle.host_session.specs.declared.stop.Stop.TheVariants as stop
use Rattle.host_session.specs.declared.under.Tally.{Tally}
use Rattle.host_session.specs.declared.under.Under.{Under}
use Rattle.host_session.specs.declared.under.Under.TheVariants as under

-- no call of many turns is under way
abbrev pub IsFree : {A : Type 0} → Under A → Type 0
IsFree under.Nothing = Unit {0}
IsFree (under.Ended q) = Unit {0}
IsFree other = ⊥

-- none was, and nothing but what is under way changes
pub record Begins {P A : Type 0} (old new : HostSession P A) : Type 0 where
  pub free : IsFree old.under
  pub own : new.own ≡ old.own
  pub bounds : new.bounds ≡ old.bounds
  pub answers : new.answers ≡ old.answers

-- another is under way, and nothing changes
abbrev pub RefusesCall : {P A : Type 0} (old new : HostSession P A) → Stop → Type 0
RefusesCall old new why = (why ≡ stop.UnderWay) × (¬ (IsFree old.under)) × (new ≡ old)

-- a walk in pieces is at its beginning, where nothing was found
abbrev pub BeginsWalk : {P A : Type 0} → Query A → ℕ → (old new : HostSession P A) → Type 0
BeginsWalk query limit old new =
    Begins old new × (walk : Continuation _) × (new.under ≡ under.Walk walk) × IsWalkOf (home_of old.own) query limit walk
    × (position_of walk.at ≡ start_of (walk_of (home_of old.own) Answers query)) × (kept_of walk.kept ≡ [])

-- the query is handed back, and nothing changes
abbrev pub RefusesWalk : {P A : Type 0} → Query A → ℕ → (old new : HostSession P A) → Refused (Query A) Stop → Type 0
RefusesWalk query limit old new refused =
    (refused.value ≡ query)
    × (RefusesCall old new refused.fault ⊎ ((refused.fault ≡ stop.BadLimit) × (limit ≡ 0) × (new ≡ old)))

-- a walk that counts or deletes is at its beginning, where nothing was counted
abbrev pub BeginsTally : {P A : Type 0} → Query A → Counting → (old new : HostSession P A) → Type 0
BeginsTally query counting old new =
    Begins old new × (tally : Tally _) × (new.under ≡ under.Tally tally) × (tally.query ≡ query) × (tally.counting ≡ counting)
    × (position_of tally.at ≡ start_of (walk_of (home_of old.own) (purpose_of counting) query)) × (tally.total ≡ 0)

-- a search for the first key of the parts from one on
abbrev pub BeginsFrom : {P A : Type 0} → ℕ → (old new : HostSession P A) → Type 0
BeginsFrom from old new = Begins old new × (new.under ≡ under.From from)

-- a search for the key after another
abbrev pub BeginsAfter : {P A : Type 0} → Datum → (old new : HostSession P A) → Type 0
BeginsAfter key old new = Begins old new × (new.under ≡ under.After key)

-- a change of fixes that was made nowhere
abbrev pub BeginsChange : {P A : Type 0} → Change → (old new : HostSession P A) → Type 0
BeginsChange change old new = Begins old new × (new.under ≡ under.Change change 0)

-- all fixes of the session are released from some part on, from the first one if that is not under way
abbrev pub BeginsRelease : {P A : Type 0} → (old new : HostSession P A) → Type 0
BeginsRelease old new =
    (from : ℕ) × (new.under ≡ under.Change change.Release from)
    × ((old.under ≡ under.Change change.Release from) ⊎ (from ≡ 0))
    × (new.own ≡ old.own) × (new.bounds ≡ old.bounds) × (new.answers ≡ old.answers)
