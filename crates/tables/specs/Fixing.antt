-- Changes of a session's counts of fixes.
use Rattle.std.specs.Prelude.{ℕ, ◌≡◌, ◌<◌, ◌≤◌, ◌⊎◌, ◌++◌, Option, Some, None, IsTrue}
use Rattle.part_core.specs.Acts.{Act, Answer, History}
use Rattle.part_core.specs.Legal.{fix_count}
use Rattle.part_core.specs.Acts.Act.{Fix, Unfix, Release}
use Rattle.tables.specs.declared.options.Options.{Options}
use Rattle.tables.specs.declared.fixing.Change.{Change}
use Rattle.tables.specs.declared.fixing.Change.TheVariants as change
use Rattle.tables.specs.Turns.{Home, Views, IsBetween, TurnedAt}
use Rattle.tables.specs.Calls.{is_granted}

-- the operation that makes a change
abbrev pub act_of_change : Change → Act
act_of_change change.Fix = Fix
act_of_change change.Unfix = Unfix
act_of_change change.Release = Release

-- the session's count allows a change at each part from one on
abbrev pub IsGrantedFrom : Home → ℕ → Change → Views → Type 0
IsGrantedFrom h from c v = (part : ℕ) → from ≤ part → part < h.options.parts → IsTrue (is_granted (act_of_change c) (fix_count h.number (v part)))

-- the part at which a change that was put off goes on; if it was made everywhere, the number of parts
abbrev pub reached : Options → Option ℕ → ℕ
reached o None = o.parts
reached o (Some part) = part

-- what was seen is followed by entries of other sessions, with no turn
abbrev pub SeesMore : Home → History → History → Type 0
SeesMore h old new = (between : History) × IsBetween h between × (new ≡ old ++ between)

-- Turns at the parts from one up to another, which isn't turned: there the session may only see more entries of other
-- sessions. Nothing else is seen of the other parts.
pub record TurnedFrom (h : Home) (from to : ℕ) (act : Act) (answer : Option Answer) (v w : Views) : Type 0 where
  pub turned : (part : ℕ) → from ≤ part → part < to → TurnedAt h (v part) act answer (w part)
  pub next : SeesMore h (v to) (w to)
  pub rest : (part : ℕ) → part < from ⊎ to < part → w part ≡ v part
