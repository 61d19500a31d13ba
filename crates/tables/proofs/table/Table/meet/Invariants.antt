use Rattle.std.proofs.Common.{ℕ, ◌≡◌, ◌<◌, ◌⊎◌}
use Rattle.gate.specs.Views.{GoesOn}
use Rattle.tables.specs.Sessions.{Sees}
use Rattle.tables.specs.Turns.{Views}
use Rattle.tables.proofs.table.Table.meet.Given as goal

abbrev pub invariant-loop-part : goal.invariant-loop-part
invariant-loop-part g l =
    ((l.one.number ≡ l.initial.one.number) × (l.one.passes.items ≡ l.initial.one.passes.items))
    × ((l.other.number ≡ l.initial.other.number) × (l.other.passes.items ≡ l.initial.other.passes.items))
    × ((part : ℕ) (v w : Views) → part < l.part → Sees l.initial.one.passes.items v → Sees l.initial.other.passes.items w
    → GoesOn (v part) (w part) ⊎ GoesOn (w part) (v part))
