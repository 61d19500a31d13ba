use Rattle.std.proofs.Common.{◌≡◌, ◌++◌, vec_items}
use Rattle.std.specs.List.{flat_map}
use Rattle.parallel_select.proofs.selecting.join_lists.Given as goal

abbrev pub invariant-loop-list : goal.invariant-loop-list
invariant-loop-list g l =
    l.answers.items ++ flat_map vec_items l.list-iterator.rest.items ≡ flat_map vec_items l.fn.lists.items
