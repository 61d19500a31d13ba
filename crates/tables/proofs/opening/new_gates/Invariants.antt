use Rattle.std.proofs.Common.{◌≡◌, ◌+◌, All, [], length}
use Rattle.tables.specs.Options.{settings_of}
use Rattle.tables.specs.Opened.{AreDealt}
use Rattle.tables.proofs.opening.new_gates.Given as goal

abbrev pub invariant-loop-part : goal.invariant-loop-part
invariant-loop-part g l =
    (length l.sessions.items ≡ length l.initial.sessions.items)
    × (length l.gates.items + length l.part-iterator.rest.items ≡ length l.fn.parts.items)
    × All (λ p. (g.P.Part.settings p ≡ settings_of l.options) × g.P.Part.is_after p []) l.part-iterator.rest.items
    × AreDealt (settings_of l.options) l.gates.items l.sessions.items
