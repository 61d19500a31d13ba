-- Dead rows of a slab.
use Rattle.std.specs.Prelude.{ℕ, ◌≡◌, Bool, true, false, not}
use Rattle.std.specs.Option.{option_map_or}
use Rattle.slab.specs.Slab.{Slab, get}
use Rattle.part_core.specs.Rows.{is_live}
use Rattle.part_hash.specs.Places.{Kept}

-- there is a dead row at a key
abbrev pub is_dead_at : Slab Kept → ℕ → Bool
is_dead_at slab at = option_map_or (λ s. not (is_live s.0)) (get slab at) false

-- no other row is dead than before
abbrev pub AreFewerDead : Slab Kept → Slab Kept → Type 0
AreFewerDead slab new = (i : ℕ) → is_dead_at new i ≡ true → is_dead_at slab i ≡ true
