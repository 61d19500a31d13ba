-- Fixes that a call makes at its beginning, at the parts that its session doesn't fix, and releases at its end.
use Rattle.std.specs.Prelude.{ℕ, ◌≡◌, ◌<◌, ◌==◌, Bool, false, not, ◌&&◌, IsTrue, MatchBool, Some, get_or, List}
use Rattle.part_core.specs.Acts.{Act, History}
use Rattle.part_core.specs.Acts.Act.{Fix, Unfix}
use Rattle.part_core.specs.Acts.Answer.{Replied}
use Rattle.part_core.specs.Acts.Said.{Nothing}
use Rattle.part_core.specs.Legal.{fix_count}
use Rattle.part_core.specs.Settings.{is_ordered}
use Rattle.tables.specs.Turns.{Home, Views, TurnedAt}

-- whether a call fixes a part first: one of a set or bag at which the session's count is 0
abbrev pub is_fixed_first : Home → Views → ℕ → Bool
is_fixed_first h v part = not (is_ordered h.options.kind) && (fix_count h.number (v part) == 0)

-- at a part, either such a turn or nothing
abbrev pub ChangedWhere : Home → Act → Bool → History → History → Type 0
ChangedWhere h act here before after =
    MatchBool here (TurnedAt h before act (Some (Replied Nothing)) after) (after ≡ before)

-- `own` says which parts were fixed, and these are the parts that a call fixes first
abbrev pub FixesFirst : Home → List Bool → Views → Views → Type 0
FixesFirst h own v w =
    (part : ℕ) → part < h.options.parts
    → (get_or own part false ≡ is_fixed_first h v part) × ChangedWhere h Fix (is_fixed_first h v part) (v part) (w part)

-- at each of the parts in `own` one fix is released
abbrev pub Releases : Home → List Bool → Views → Views → Type 0
Releases h own v w = (part : ℕ) → part < h.options.parts → ChangedWhere h Unfix (get_or own part false) (v part) (w part)

-- the session fixes each of the parts in `own`
abbrev pub AreHeld : Home → List Bool → Views → Type 0
AreHeld h own v =
    (part : ℕ) → part < h.options.parts → IsTrue (get_or own part false) → 0 < fix_count h.number (v part)
