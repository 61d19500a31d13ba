use Rattle.std.proofs.Common.{◌≡◌, ◌≤◌, ◌++◌}
use Rattle.std.specs.Prelude.{vec_len, vec_capacity}
use Rattle.walks.proofs.kept.Kept.take_first.Given as goal

abbrev pub invariant-loop-taken : goal.invariant-loop-taken
invariant-loop-taken g l =
    (l.piece.items ++ l.self.earlier.items ≡ l.initial.self.earlier.items) × (vec_len l.piece ≡ l._taken)
    × (l.limit ≤ vec_capacity l.piece) × (l.self.last ≡ l.initial.self.last)
