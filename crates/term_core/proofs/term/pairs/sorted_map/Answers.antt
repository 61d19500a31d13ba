use Rattle.std.proofs.Common.{◌∙◌}
use Rattle.std.specs.List.Sorted.{IsPermutation}
use Rattle.term_core.proofs.MapLemmas.{map_depth-permutation, map_from_sort}
use Rattle.term_core.proofs.term.pairs.sorted_map.Goals as goal

pub from_rising-requires-clause-within : goal.from_rising-requires-clause-within
from_rising-requires-clause-within g c =
    let es = c.args.pairs.items in
    let fs = c.sort_unstable.new.self.items in
    let moved : IsPermutation es fs = rw (c.in-Ok.ensures ∙ c.as_slice.ensures.value) at c.sort_unstable.ensures.permutation in
    map_depth-permutation c.args.depth es fs c.requires.within moved

pub from_rising-requires-clause-rising : goal.from_rising-requires-clause-rising
from_rising-requires-clause-rising g c =
    let es = c.args.pairs.items in
    let fs = c.sort_unstable.new.self.items in
    let moved : IsPermutation es fs = rw (c.in-Ok.ensures ∙ c.as_slice.ensures.value) at c.sort_unstable.ensures.permutation in
    map_from_sort es fs c.requires.apart moved c.sort_unstable.ensures.sorted

pub returns-in-Ok-from_rising-clause-ok : goal.returns-in-Ok-from_rising-clause-ok
returns-in-Ok-from_rising-clause-ok g c =
    let es = c.args.pairs.items in
    let fs = c.sort_unstable.new.self.items in
    let moved : IsPermutation es fs = rw (c.in-Ok.ensures ∙ c.as_slice.ensures.value) at c.sort_unstable.ensures.permutation in
    record {
      entries = fs;
      permutation = moved;
      rising = map_from_sort es fs c.requires.apart moved c.sort_unstable.ensures.sorted;
      is = c.in-Ok-from_rising.ensures.ok;
    }
