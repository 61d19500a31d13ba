use Rattle.std.proofs.Common.{◌≡◌, List, length, map}
use Rattle.std.specs.List.{range_with_len}
use Rattle.gate.specs.Views.{GateId, first_ticket}
use Rattle.tables.specs.Options.{settings_of}
use Rattle.tables.specs.Opened.{AreDealt}
use Rattle.tables.proofs.OpeningLemmas.{AreDealtFrom}
use Rattle.tables.proofs.opening.deal.Given as goal

abbrev pub invariant-loop-number : goal.invariant-loop-number
invariant-loop-number g l =
    (length l.sessions.items ≡ length l.initial.sessions.items)
    × (l.passes.items ≡ map (first_ticket l._gate (settings_of l.fn.options)) (range_with_len 0 l.number))
    × ((gates : List GateId) → AreDealt (settings_of l.fn.options) gates l.initial.sessions.items
    → AreDealtFrom (settings_of l.fn.options) gates l._gate l.number l.sessions.items)
