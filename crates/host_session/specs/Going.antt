-- How calls of many turns go on, and how they end.
use Rattle.std.specs.Prelude.{ℕ, ◌≡◌, ◌≤◌, ◌<◌, ◌+◌, ◌⊎◌, List, [], ◌∷◌, Option, Some, None, Result, Ok, Err, min}
use Rattle.term_core.specs.Datum.{Datum}
use Rattle.term_core.specs.declared.term.Term.{Term}
use Rattle.part_core.specs.Acts.Act.{First, Next}
use Rattle.part_core.specs.Acts.Answer.{Replied, Refused}
use Rattle.part_core.specs.Acts.Purpose.{Answers}
use Rattle.part_core.specs.Acts.Refusal.{BadKey}
use Rattle.part_core.specs.Acts.Said.{AtKey, Nothing}
use Rattle.part_core.specs.Replies.{most_counted}
use Rattle.part_core.specs.Settings.{part_of}
use Rattle.tables.specs.declared.fixing.Change.{Change}
use Rattle.tables.specs.declared.fixing.Change.TheVariants as change
use Rattle.tables.specs.Fixing.{IsGrantedFrom, TurnedFrom, act_of_change}
use Rattle.tables.specs.Options.{settings_of}
use Rattle.tables.specs.Turns.{Home, Views, Turned}
use Rattle.walk_core.specs.Counting.{purpose_of}
use Rattle.walk_core.specs.Positions.{position_of}
use Rattle.walk_core.specs.Walk.Position.{Over}
use Rattle.walk_query.specs.declared.query.Query.{Query}
use Rattle.walks.specs.declared.continuation.Continuation.{Continuation}
use Rattle.walks.specs.declared.continuation.Step.{Step}
use Rattle.walks.specs.declared.continuation.Step.TheVariants as step
use Rattle.walks.specs.Asked.{IsForeign, StopsTallying, TalliesTo}
use Rattle.walks.specs.Keys.{FoundFirst, FoundNext, Passed, RefusedAt}
use Rattle.walks.specs.Pieces.{Continues, IsOwn, Keeps}
use Rattle.walks.specs.Query.{IsWithin}
use Rattle.table_sessions.specs.Own.{Does, SeenBy, home_of}
use Rattle.table_sessions.specs.declared.own.OwnSession.{OwnSession}
use Rattle.host_session.specs.declared.session.HostSession.{HostSession}
use Rattle.host_session.specs.declared.stop.Stop.{Stop}
use Rattle.host_session.specs.declared.stop.Stop.TheVariants as stop
use Rattle.host_session.specs.declared.under.Progress.{Progress}
use Rattle.host_session.specs.declared.under.Progress.TheVariants as progress
use Rattle.host_session.specs.declared.under.Searched.{Searched}
use Rattle.host_session.specs.declared.under.Searched.TheVariants as searched
use Rattle.host_session.specs.declared.under.Tally.{Tally}
use Rattle.host_session.specs.declared.under.Under.{Under}
use Rattle.host_session.specs.declared.under.Under.TheVariants as under

-- memory lacked, or a turn was put off, or the call made as many turns as it may
abbrev pub IsPause : Stop → Type 0
IsPause stop.Memory = Unit {0}
IsPause stop.Busy = Unit {0}
IsPause stop.Bound = Unit {0}
IsPause other = ⊥

-- the key that was found, if any
abbrev pub IsFound : Option Datum → List Datum → Type 0
IsFound None answers = answers ≡ []
IsFound (Some key) answers = answers ≡ key ∷ []

-- parts from one up to another have no key, and at that one no turn was made
abbrev pub StopsFirst : Home → (from to : ℕ) → Views → Views → Type 0
StopsFirst h from to v w =
    (from ≤ to) × (to < h.options.parts) × (u : Views) × Passed h from to v u × Turned h to First None u w

-- the same, or no turn was made at all, since memory lacked before it
abbrev pub Unfound : Home → (from to : ℕ) → Views → Views → Type 0
Unfound h from to v w = ((from ≡ to) × (w ≡ v)) ⊎ StopsFirst h from to v w

-- what a search for the key after another came to
abbrev pub SearchedNext : {A : Type 0} → Home → Datum → Searched A → Views → Views → Type 0
SearchedNext h key (searched.Found next) v w = FoundNext h key next v w
SearchedNext h key (searched.From to) v w =
    (u : Views) × Turned h (part_of (settings_of h.options) key) (Next key) (Some (Replied (AtKey None))) v u
    × StopsFirst h (part_of (settings_of h.options) key + 1) to u w
SearchedNext h key (searched.Refused f) v w = RefusedAt h (part_of (settings_of h.options) key) key f v w

-- what is under way after it is stopped at the part of the other key
abbrev pub left_after : {A : Type 0} → Term A → Stop → Under A
left_after key stop.BadKey = under.Nothing
left_after key other = under.After key

-- why a change of fixes is not allowed
abbrev pub refusal_of : Change → Stop
refusal_of change.Fix = stop.FixLimit
refusal_of change.Unfix = stop.NotFixed
refusal_of change.Release = stop.NotFixed

-- what a step of a walk returned is kept
abbrev pub TakesStep : {P A : Type 0} → Step A → HostSession P A → Progress → Type 0
TakesStep (step.Piece answers walk) new did = (new.answers ≡ answers) × (new.under ≡ under.Walk walk) × (did ≡ progress.More)
TakesStep (step.End query) new did = (new.answers.items ≡ []) × (new.under ≡ under.Ended query) × (did ≡ progress.Last)

-- what a session has under way, and its answers, after a call
module _ {P A : Type 0} (before now : OwnSession P A) where
  -- A walk in pieces: the next piece is the answers, or it is at its end. If it is stopped, what it found is kept.
  abbrev pub WalksOn : Continuation A → (answers : List Datum) → HostSession P A → Result Progress Stop → Type 0
  WalksOn walk answers new (Ok progress.More) =
      (next : Continuation A) × (new.under ≡ under.Walk next) × Does before now (λ h. Continues h walk (step.Piece new.answers next))
  WalksOn walk answers new (Ok progress.Last) =
      (query : Query A) × (new.under ≡ under.Ended query) × (new.answers.items ≡ [])
      × Does before now (λ h. Continues h walk (step.End query))
  WalksOn walk answers new (Ok other) = ⊥
  WalksOn walk answers new (Err stop.Stranger) =
      IsOwn (home_of before) walk → IsForeign (home_of before) Answers walk.query (SeenBy before) (position_of walk.at)
  WalksOn walk answers new (Err why) =
      IsPause why × (new.answers.items ≡ answers)
      × (next : Continuation A) × (new.under ≡ under.Walk next) × Does before now (λ h. Keeps h walk next)

  -- A walk that counts or deletes: to its end, or as far as it came. What it counted is added to what it had.
  abbrev pub TalliesOn : Tally A → HostSession P A → Result Progress Stop → Type 0
  TalliesOn tally new (Ok (progress.Counted n)) =
      (new.under ≡ under.Ended tally.query)
      × (more : ℕ) × (n ≡ min (tally.total + more) most_counted)
      × Does before now (λ h. TalliesTo h (purpose_of tally.counting) tally.query (position_of tally.at) Over more)
  TalliesOn tally new (Ok other) = ⊥
  TalliesOn tally new (Err stop.Stranger) =
      IsWithin (home_of before).options tally.query tally.at
      → IsForeign (home_of before) (purpose_of tally.counting) tally.query (SeenBy before) (position_of tally.at)
  TalliesOn tally new (Err why) =
      IsPause why × (next : Tally A) × (new.under ≡ under.Tally next) × (next.query ≡ tally.query) × (next.counting ≡ tally.counting)
      × (more : ℕ) × (next.total ≡ min (tally.total + more) most_counted)
      × Does before now (λ h. StopsTallying h (purpose_of tally.counting) tally.query (position_of tally.at) (position_of next.at) more)

  -- A search for the first key of the parts from one on.
  abbrev pub SearchesFrom : ℕ → (answers : List Datum) → HostSession P A → Result Progress Stop → Type 0
  SearchesFrom from answers new (Ok progress.Last) =
      (new.under ≡ under.Nothing) × (found : Option Datum) × IsFound found new.answers.items × Does before now (λ h. FoundFirst h from found)
  SearchesFrom from answers new (Ok other) = ⊥
  SearchesFrom from answers new (Err why) =
      IsPause why × (new.answers.items ≡ answers) × (to : ℕ) × (new.under ≡ under.From to) × Does before now (λ h. Unfound h from to)

  -- A search for the key after another: its part has none after it, before the parts that follow are searched.
  abbrev pub SearchesAfter : Datum → (answers : List Datum) → HostSession P A → Result Progress Stop → Type 0
  SearchesAfter key answers new (Ok progress.Last) =
      (new.under ≡ under.Nothing) × (found : Option Datum) × IsFound found new.answers.items × Does before now (λ h. FoundNext h key found)
  SearchesAfter key answers new (Ok other) = ⊥
  SearchesAfter key answers new (Err stop.BadKey) =
      (new.under ≡ under.Nothing) × (new.answers.items ≡ answers)
      × Does before now (λ h. Turned h (part_of (settings_of h.options) key) (Next key) (Some (Refused BadKey)))
  SearchesAfter key answers new (Err why) =
      IsPause why × (new.answers.items ≡ answers)
      × (((new.under ≡ under.After key)
      × Does before now (λ h v w. (w ≡ v) ⊎ Turned h (part_of (settings_of h.options) key) (Next key) None v w))
      ⊎ ((to : ℕ) × (new.under ≡ under.From to)
      × Does before now (λ h v w. (u : Views) × Turned h (part_of (settings_of h.options) key) (Next key) (Some (Replied (AtKey None))) v u
      × Unfound h (part_of (settings_of h.options) key + 1) to u w)))

  -- A change of fixes at the parts from one on: at all of them, or up to one where it is put off. If a count does not allow
  -- it, it is ended there.
  abbrev pub ChangesOn : Change → ℕ → HostSession P A → Result Progress Stop → Type 0
  ChangesOn c from new (Ok progress.Done) =
      (new.under ≡ under.Nothing)
      × (from ≤ (home_of before).options.parts → Does before now (λ h. TurnedFrom h from h.options.parts (act_of_change c) (Some (Replied Nothing))))
  ChangesOn c from new (Ok other) = ⊥
  ChangesOn c from new (Err why) =
      ((new.under ≡ under.Nothing) × (why ≡ refusal_of c)
      × Does before now (λ h v w. (w ≡ v) × (¬ (IsGrantedFrom h from c v))))
      ⊎ (IsPause why × (to : ℕ) × (from ≤ to) × (new.under ≡ under.Change c to)
      × Does before now (λ h. TurnedFrom h from to (act_of_change c) (Some (Replied Nothing))))

-- a call goes on with what is under way
abbrev pub GoesOnWith : {P A : Type 0} → Under A → (old new : HostSession P A) → Result Progress Stop → Type 0
GoesOnWith under.Nothing old new result = (result ≡ Err stop.UnderWay) × (new ≡ old)
GoesOnWith (under.Ended q) old new result = (result ≡ Err stop.UnderWay) × (new ≡ old)
GoesOnWith (under.Walk walk) old new result = WalksOn old.own new.own walk old.answers.items new result
GoesOnWith (under.Tally tally) old new result =
    (new.answers ≡ old.answers) × TalliesOn old.own new.own tally new result
GoesOnWith (under.After key) old new result = SearchesAfter old.own new.own key old.answers.items new result
GoesOnWith (under.From from) old new result = SearchesFrom old.own new.own from old.answers.items new result
GoesOnWith (under.Change c from) old new result =
    (new.answers ≡ old.answers) × ChangesOn old.own new.own c from new result

abbrev pub GoesOn : {P A : Type 0} → (old new : HostSession P A) → Result Progress Stop → Type 0
GoesOn old new result = GoesOnWith old.under old new result

-- a call that is under way is given up, with the query of a walk; a change of fixes is not
abbrev pub GivesUp : {A : Type 0} → (old new : Under A) → Result (Option (Query A)) Stop → Type 0
GivesUp under.Nothing new result = (result ≡ Ok None) × (new ≡ under.Nothing)
GivesUp (under.Ended q) new result = (result ≡ Ok (Some q)) × (new ≡ under.Nothing)
GivesUp (under.Walk walk) new result = (result ≡ Ok (Some walk.query)) × (new ≡ under.Nothing)
GivesUp (under.Tally tally) new result = (result ≡ Ok (Some tally.query)) × (new ≡ under.Nothing)
GivesUp (under.After key) new result = (result ≡ Ok None) × (new ≡ under.Nothing)
GivesUp (under.From from) new result = (result ≡ Ok None) × (new ≡ under.Nothing)
GivesUp (under.Change c from) new result = (result ≡ Err stop.UnderWay) × (new ≡ under.Change c from)
