-- What a session sees of a table, and how a turn at one part changes it.
use Rattle.std.specs.Prelude.{ℕ, ◌≡◌, ◌≢◌, ◌<◌, Bool, IsTrue, Option, List, [], ◌++◌}
use Rattle.term_core.specs.Datum.{Datum}
use Rattle.part_core.specs.Settings.{part_of}
use Rattle.part_core.specs.Acts.{Act, Answer, History}
use Rattle.part_core.specs.Legal.{IsLegal}
use Rattle.part_core.specs.Ops.{entries_of}
use Rattle.gate.specs.Views.{own, GateId}
use Rattle.tables.specs.declared.options.Options.{Options}
use Rattle.tables.specs.Options.{settings_of}

-- The home of a session: the options of its table, the table's gates, if it has any, and the session's number; also the
-- name by which what turns change is borrowed, and whether no other session can make a turn meanwhile.
pub record Home : Type 0 where
  pub options : Options
  pub gates : List GateId
  pub number : ℕ
  pub table : ℕ
  pub alone : Bool

-- a view of a table: of each part, by its number, a history
abbrev pub Views : Type 0
Views = ℕ → History

-- entries that may come between two turns of a session: none of its own, and none at all if it is alone
pub record IsBetween (h : Home) (log : History) : Type 0 where
  pub others : own h.number log ≡ []
  pub alone : IsTrue h.alone → log ≡ []

-- A turn, in terms of the part's history: what was seen is followed by entries of other sessions, and then by the
-- turn's entry. If the turn ran out of memory, it has no entry. The whole history is legal.
pub record TurnedAt (h : Home) (old : History) (act : Act) (answer : Option Answer) (new : History) : Type 0 where
  pub between : History
  pub others : IsBetween h between
  pub grown : new ≡ (old ++ between) ++ entries_of h.number act answer
  pub legal : IsLegal (settings_of h.options) new

-- a turn at one part, with the views of the other parts unchanged
pub record Turned (h : Home) (part : ℕ) (act : Act) (answer : Option Answer) (v w : Views) : Type 0 where
  pub here : TurnedAt h (v part) act answer (w part)
  pub rest : (k : ℕ) → k ≢ part → w k ≡ v k

-- a turn at the part of a key
abbrev pub TurnedByKey : Home → Datum → Act → Option Answer → Views → Views → Type 0
TurnedByKey h k act answer v w = Turned h (part_of (settings_of h.options) k) act answer v w

-- a turn at each part
abbrev pub TurnedEach : Home → Act → Option Answer → Views → Views → Type 0
TurnedEach h act answer v w = (part : ℕ) → part < h.options.parts → TurnedAt h (v part) act answer (w part)

-- for all views that were seen before, there are views seen now that are in the relation with them
abbrev pub Follows : (Views → Type 0) → (Views → Type 0) → (Views → Views → Type 0) → Type 0
Follows before now R = (v : Views) → before v → (w : Views) × now w × R v w
