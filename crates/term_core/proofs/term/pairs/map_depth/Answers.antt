use Rattle.std.proofs.Common.{arith}
use Rattle.term_core.proofs.LimitLemmas.{entry_count-entries_of}
use Rattle.term_core.proofs.term.pairs.map_depth.Goals as goal

pub returns-then-pairs-gt-MAX_MAP-clause-refused : goal.returns-then-pairs-gt-MAX_MAP-clause-refused
returns-then-pairs-gt-MAX_MAP-clause-refused g c =
    let count = entry_count-entries_of c.args.pairs.now in (omega arith, omega arith)
