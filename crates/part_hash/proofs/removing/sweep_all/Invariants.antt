use Rattle.std.specs.Prelude.{ℕ, ◌≡◌, ◌≤◌, List, filter, length, true}
use Rattle.part_core.specs.declared.settings.Settings.{Settings}
use Rattle.part_core.specs.Rows.{Row, is_live}
use Rattle.part_hash.specs.Places.{spread}
use Rattle.part_hash.specs.Standing.{Stands}
use Rattle.part_hash.specs.Swept.{is_dead_at}
use Rattle.part_hash.proofs.removing.sweep_all.Given as goal

abbrev pub invariant-loop-at : goal.invariant-loop-at
invariant-loop-at g l =
    (length l.store.slots.items ≡ length l.initial.store.slots.items)
    × ((o : Settings) (rows : List Row) → l.spread ≡ spread o → Stands o l.initial.store rows
    → (left : List Row) × Stands o l.store left × (filter is_live left ≡ filter is_live rows)
    × ((i : ℕ) → is_dead_at l.store.rows i ≡ true → l.at ≤ i) × ((i : ℕ) → is_dead_at l.store.rows i ≡ true → is_dead_at l.initial.store.rows i ≡ true))
