use Rattle.std.proofs.Common.{◌≡◌, All, [], length}
use Rattle.part_core.specs.Served.{IsServed}
use Rattle.tables.specs.Options.{settings_of}
use Rattle.tables.proofs.opening.made.Given as goal

abbrev pub invariant-loop-part : goal.invariant-loop-part
invariant-loop-part g l =
    (length l.parts.items ≡ l._part)
    × All (λ p. IsServed g.P.Part.serves (settings_of l.options) × (g.P.Part.settings p ≡ settings_of l.options) × g.P.Part.is_after p []) l.parts.items
