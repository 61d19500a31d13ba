use Rattle.std.proofs.Common.{eqb}
use Rattle.std.proofs.lemmas.List.Filters.{dedup_is}
use Rattle.mspec_syntax.proofs.RisingLemmas.{rising-sorted, rising-itself}
use Rattle.mspec_syntax.proofs.variables.Variables.new.Goals as goal

pub returns : goal.returns
returns g c =
    rising-sorted c.args.numbers.items c.sort_unstable.new.self.items c.dedup.new.self.items c.sort_unstable.ensures.permutation c.sort_unstable.ensures.sorted (dedup_is eqb _ _ c.dedup.ensures.filtered)

pub invariant_of-result : goal.invariant_of-result
invariant_of-result g c =
    rising-itself c.args.numbers.items c.dedup.new.self.items
    (rising-sorted c.args.numbers.items c.sort_unstable.new.self.items c.dedup.new.self.items c.sort_unstable.ensures.permutation c.sort_unstable.ensures.sorted (dedup_is eqb _ _ c.dedup.ensures.filtered))
