use Rattle.std.proofs.Common.{◌≡◌, ◌++◌, take}
use Rattle.part_core.proofs.held.Held.copy_into.Given as goal

abbrev pub invariant-loop-object : goal.invariant-loop-object
invariant-loop-object g l =
    l.into.items ≡ l.initial.into.items ++ take l.object-index l.object-items
