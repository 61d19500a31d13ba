-- Legal histories: each answer is that of the state before it.
use Rattle.std.specs.Prelude.{ℕ, ◌≡◌, ◌+◌, ◌-◌, ◌<◌, ◌==◌, ◌&&◌, not, if◌then◌else◌, IsTrue, fold, [], ◌∷◌}
use Rattle.part_core.specs.declared.settings.Settings.{Settings}
use Rattle.part_core.specs.Acts.{Act, Entry, History, IsAsked, is_refused}
use Rattle.part_core.specs.Acts.Act.{Fix, Unfix, Release}
use Rattle.part_core.specs.Rows.{PartState, opening, is_fixed}
use Rattle.part_core.specs.Replies.{reply_of}
use Rattle.part_core.specs.After.{after}

-- the state after a list of entries, starting from a given state
abbrev pub state_from : Settings → PartState → History → PartState
state_from o s [] = s
state_from o s (e ∷ es) = state_from o (after o s e.session e.act) es

-- the state of a part after its history
abbrev pub state_after : Settings → History → PartState
state_after o log = state_from o (opening o) log

-- an entry is right in a state: its session is one of the table's, its operation may be requested, and its answer is
-- that of the state
pub record IsRight (o : Settings) (s : PartState) (e : Entry) : Type 0 where
  pub session : e.session < o.sessions
  pub asked : IsAsked e.act
  pub answer : e.answer ≡ reply_of o s e.session e.act

-- entries that are right one after the other, starting from a given state
abbrev pub IsLegalFrom : Settings → PartState → History → Type 0
IsLegalFrom o s [] = Unit {0}
IsLegalFrom o s (e ∷ es) = IsRight o s e × IsLegalFrom o (after o s e.session e.act) es

-- a history that a part can have
abbrev pub IsLegal : Settings → History → Type 0
IsLegal o log = IsLegalFrom o (opening o) log

-- some session fixes the part before each of these entries and after the last
abbrev pub IsFixedFrom : Settings → PartState → History → Type 0
IsFixedFrom o s [] = IsTrue (is_fixed s.fixes)
IsFixedFrom o s (e ∷ es) =
    IsTrue (is_fixed s.fixes) × IsFixedFrom o (after o s e.session e.act) es

-- a session's count of fixes after its act was not refused
abbrev pub fixes_after : Act → ℕ → ℕ
fixes_after Fix count = count + 1
fixes_after Unfix count = count - 1
fixes_after Release count = 0
fixes_after act count = count

-- how many times a session fixes a part, computed from the history alone
abbrev pub fix_count : ℕ → History → ℕ
fix_count n log =
    fold (λ count e. if e.session == n && not (is_refused e.answer) then fixes_after e.act count else count)
    0 log
