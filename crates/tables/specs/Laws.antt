-- What holds of every session.
use Rattle.std.specs.Prelude.{ℕ, ◌≡◌, ◌≤◌, ◌++◌, Option, Some, All, List, []}
use Rattle.std.specs.List.{Contains}
use Rattle.term_core.specs.Datum.{Datum}
use Rattle.part_core.specs.declared.settings.Settings.{Settings}
use Rattle.part_core.specs.Settings.{key_of, part_of}
use Rattle.part_core.specs.Acts.{Act, Answer, Entry, History}
use Rattle.part_core.specs.Acts.Act.{Insert, Lookup}
use Rattle.part_core.specs.Acts.Answer.{Replied}
use Rattle.part_core.specs.Acts.Said.{Nothing, Objects}
use Rattle.part_core.specs.Content.{written, content}
use Rattle.gate.specs.Views.{own}
use Rattle.tables.specs.Options.{settings_of}
use Rattle.tables.specs.Turns.{Home, Views, TurnedByKey, TurnedEach}
use Rattle.tables.specs.Calls.{TurnedByObject}
use Rattle.tables.specs.Fixing.{TurnedFrom}

-- an entry leaves an object among those of its key if it was there
abbrev pub Leaves : Settings → Datum → Entry → Type 0
Leaves o t e = (os : List Datum) → Contains os t → Contains (written o (key_of o t) os e.act e.answer) t

-- What a look-up finds after a history and entries of other sessions: the content there. If the history ends with the
-- insertion of an object, it is found if each of the entries of others leaves it.
pub record IsSeen (h : Home) (t : Datum) (past : History) (found : List Datum) : Type 0 where
  pub between : History
  pub others : own h.number between ≡ []
  pub says : found ≡ content (settings_of h.options) (key_of (settings_of h.options) t) (past ++ between)
  pub there : All (Leaves (settings_of h.options) t) between → Contains found t

-- an object that a session has inserted is found by its look-up, unless others removed it in between
abbrev pub InsertsAreSeen : Type 0
InsertsAreSeen =
    (h : Home) (t : Datum) (v w x : Views) (found : List Datum)
    → TurnedByObject h t (Insert t) (Some (Replied Nothing)) v w
    → TurnedByKey h (key_of (settings_of h.options) t) (Lookup (key_of (settings_of h.options) t)) (Some (Replied (Objects found))) w x
    → IsSeen h t (w (part_of (settings_of h.options) (key_of (settings_of h.options) t))) found

-- A change that is put off and goes on is one change: from a part to another, and from there on.
abbrev pub ChangesGoOn : Type 0
ChangesGoOn =
    (h : Home) (from at to : ℕ) (act : Act) (answer : Option Answer) (v w x : Views) → from ≤ at → at ≤ to
    → TurnedFrom h from at act answer v w → TurnedFrom h at to act answer w x → TurnedFrom h from to act answer v x

-- A change from the first part on that is made at all is a turn at each part.
abbrev pub ChangesReachAll : Type 0
ChangesReachAll =
    (h : Home) (act : Act) (answer : Option Answer) (v w : Views) → TurnedFrom h 0 h.options.parts act answer v w → TurnedEach h act answer v w
