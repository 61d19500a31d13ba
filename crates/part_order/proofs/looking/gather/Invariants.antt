use Rattle.std.proofs.Common.{◌≡◌, ◌++◌}
use Rattle.std.specs.Prelude.{flat_map}
use Rattle.part_core.specs.Rows.{Row}
use Rattle.part_order.proofs.looking.gather.Given as goal

abbrev pub invariant-loop-key : goal.invariant-loop-key
invariant-loop-key g l =
    l.into.items ++ flat_map (λ (r : Row). r.1) l._key-iterator ≡ l.initial.into.items ++ flat_map (λ (r : Row). r.1) l.tree.entries
