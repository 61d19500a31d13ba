use Rattle.std.proofs.Common.{◌≤◌, length, arith}
use Rattle.std.proofs.lemmas.List.Elements.{All-from_recursion}
use Rattle.term_core.specs.MapPairs.{IsPairSound}
use Rattle.term_core.proofs.LimitLemmas.{entry_count-entries_of}
use Rattle.term_text.proofs.pairs.map_of.Goals as goal

pub from_rising-requires-clause-within : goal.from_rising-requires-clause-within
from_rising-requires-clause-within g c =
    let deep = rw c.as_slice.ensures.value at c.deepest_pair-depth.ensures.value in
    let sound = rw c.as_slice.ensures.value at c.deepest_pair-depth.ensures.sound in
    let few : length c.args.pairs.items ≤ 65535 = omega (arith, entry_count-entries_of c.args.pairs.items, c.requires.within.1) in
    record { depth = omega (arith, deep); shallow = omega (arith, deep, c.requires.within.0); short = omega (arith, few); sound = All-from_recursion IsPairSound c.args.pairs.items sound }
