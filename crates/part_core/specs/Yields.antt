-- What it means that a visit's answers are those for the keys that it covers.
use Rattle.std.specs.Prelude.{◌≡◌, ◌≢◌, ◌⊎◌, Bool, IsTrue, All, AllPairs, Contains, flat_map, List, []}
use Rattle.term_core.specs.Datum.{Datum}
use Rattle.mcode.specs.Program.{Program}
use Rattle.part_core.specs.declared.settings.Settings.{Settings}
use Rattle.part_core.specs.Acts.{Purpose, History}
use Rattle.part_core.specs.Visits.{yields}
use Rattle.part_core.specs.Content.{content}

-- There are distinct keys of the cover, in some order, such that the answers are those for their objects after the
-- history, one key after the other. Every other key of the cover yields nothing.
pub record Yields (o : Settings) (past : History) (purpose : Purpose) (p : Program) (cover : Datum → Bool) (answers : List Datum) : Type 0 where
  pub keys : List Datum
  pub apart : AllPairs (λ j k. j ≢ k) keys
  pub covered : All (λ k. IsTrue (cover k)) keys
  pub sum : answers ≡ flat_map (λ k. yields purpose p (content o k past)) keys
  pub silent : (k : Datum) → IsTrue (cover k)
      → Contains keys k ⊎ (yields purpose p (content o k past) ≡ [])
