use Rattle.std.proofs.Common.{◌≡◌, ◌+◌, length}
use Rattle.table_sessions.proofs.ShareLemmas.{AreLeft, HaveShares}
use Rattle.table_sessions.proofs.opening.share.Given as goal

abbrev pub invariant-loop-seat : goal.invariant-loop-seat
invariant-loop-seat g l =
    (length l.shares.items + length l.seat-iterator.rest.items ≡ length l.fn.sessions.items)
    × AreLeft l.fn.table.options l.fn.table.gates.items (length l.shares.items) l.seat-iterator.rest.items
    × HaveShares l.fn.table.options l.fn.table.gates.items l.shares.items
