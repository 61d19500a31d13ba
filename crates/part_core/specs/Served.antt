-- Which settings a part is made for.
use Rattle.std.specs.Prelude.{ℕ, ◌≤◌, Bool, IsTrue, IsFalse}
use Rattle.part_core.specs.declared.kind.TableKind.{TableKind}
use Rattle.part_core.specs.declared.settings.Settings.{Settings}
use Rattle.part_core.specs.Settings.{is_ordered}

-- settings made of their fields
abbrev pub settings_with : TableKind → ℕ → ℕ → ℕ → Settings
settings_with kind keypos parts sessions =
    record { kind = kind; keypos = keypos; parts = parts; sessions = sessions }

-- the key's position is from 1 to 65,535, there are 1 to 64 parts, and 1 to 16 sessions
pub record AreInRange (o : Settings) : Type 0 where
  pub keypos : (1 ≤ o.keypos) × (o.keypos ≤ 65535)
  pub parts : (1 ≤ o.parts) × (o.parts ≤ 64)
  pub sessions : (1 ≤ o.sessions) × (o.sessions ≤ 16)

-- the kind is served, and each number is in its range
pub record IsServed (serves : TableKind → Bool) (o : Settings) : Type 0 where
  pub kind : IsTrue (serves o.kind)
  pub ranges : AreInRange o

-- the part serves all kinds of tables except those that are walked by key
abbrev pub ServesUnordered : (TableKind → Bool) → Type 0
ServesUnordered serves = (kind : TableKind) → IsFalse (is_ordered kind) → IsTrue (serves kind)
