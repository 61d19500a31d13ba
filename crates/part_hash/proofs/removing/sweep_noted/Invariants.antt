use Rattle.std.specs.Prelude.{ℕ, ◌≡◌, ◌==◌, List, drop, false, filter, length, true}
use Rattle.std.specs.List.{list_any}
use Rattle.part_core.specs.declared.settings.Settings.{Settings}
use Rattle.part_core.specs.Rows.{Row, is_live}
use Rattle.part_hash.specs.Places.{spread}
use Rattle.part_hash.specs.Standing.{Stands}
use Rattle.part_hash.specs.Swept.{is_dead_at}
use Rattle.part_hash.proofs.removing.sweep_noted.Given as goal

abbrev pub invariant-loop-number : goal.invariant-loop-number
invariant-loop-number g l =
    (length l.store.slots.items ≡ length l.initial.store.slots.items)
    × (l.store.dying.items ≡ l.initial.store.dying.items)
    × ((o : Settings) (rows : List Row) → l.spread ≡ spread o → l.initial.store.lost ≡ false → Stands o l.initial.store rows
    → (left : List Row) × Stands o l.store left × (filter is_live left ≡ filter is_live rows)
    × ((i : ℕ) → is_dead_at l.store.rows i ≡ true → list_any (λ n. n == i) (drop l.number l.initial.store.dying.items) ≡ true))
