use Rattle.std.proofs.Common.{◌≡◌, ◌++◌, vec_items}
use Rattle.std.specs.List.{flat_map}
use Rattle.parallel_list.proofs.list.join_runs.Given as goal

abbrev pub invariant-loop-run : goal.invariant-loop-run
invariant-loop-run g l =
    l.answers.items ++ flat_map vec_items l.run-iterator.rest.items ≡ flat_map vec_items l.fn.runs.items
