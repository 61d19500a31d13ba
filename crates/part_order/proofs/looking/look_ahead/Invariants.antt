use Rattle.std.proofs.Common.{◌≡◌, ◌+◌, ◌≤◌, ◌++◌, take}
use Rattle.std.specs.Prelude.{vec_len, vec_capacity}
use Rattle.std.specs.Iterator.Adapters.{take_source, take_count}
use Rattle.part_order.proofs.looking.look_ahead.Given as goal

abbrev pub invariant-loop-key : goal.invariant-loop-key
invariant-loop-key g l =
    (l.into.items ++ take (take_count l.key-iterator) (take_source l.key-iterator) ≡ l.initial.into.items ++ take (take_count l.initial.key-iterator) (take_source l.initial.key-iterator))
    × (vec_len l.into + take_count l.key-iterator ≤ vec_capacity l.into)
