use Rattle.std.proofs.Common.{◌≡◌}
use Rattle.std.specs.Prelude.{All}
use Rattle.part_core.specs.States.{IsRow}
use Rattle.part_rows.specs.Dead.{Keeps}
use Rattle.part_rows.specs.Shown.{Shown, AreSound}
use Rattle.part_engine.specs.Deletions.{shown_swept}
use Rattle.part_engine.proofs.stored.StoredPart.sweep.Given as goal

abbrev pub invariant-loop-row : goal.invariant-loop-row
invariant-loop-row g l =
    (l.self.settings ≡ l.initial.self.settings)
    × (l.self.fixes.items ≡ l.initial.self.fixes.items)
    × (l.self.base ≡ l.initial.self.base)
    × ((w : Shown) → Keeps g.R.Rows.shows l.initial.self.settings l.initial.self.rows l.initial.self.dead w → AreSound l.initial.self.settings w → All (IsRow l.initial.self.settings) l.initial.row-iterator.rest.items
    → (v : Shown) × Keeps g.R.Rows.shows l.initial.self.settings l.self.rows l.self.dead v × AreSound l.initial.self.settings v × All (IsRow l.initial.self.settings) l.row-iterator.rest.items × (shown_swept l.keeps l.row-iterator.rest.items v ≡ shown_swept l.keeps l.initial.row-iterator.rest.items w))
