use Rattle.std.proofs.Common.{[]}
use Rattle.walk_core.proofs.GrowthLemmas.{grown_so_far}
use Rattle.walks.proofs.laws.counts_outlast_others.Goals as goal

pub returns : goal.returns
returns c = λ w calls now later at number walk grown s. record {
  found = s.found;
  so_far = grown_so_far w calls s.found now later at [] walk grown s.so_far;
  count = s.count;
}
