use Rattle.std.proofs.Common.{false}
use Rattle.hash_index.specs.Cells.{home}
use Rattle.hash_index.proofs.Cells.{IsOf}
use Rattle.hash_index.proofs.Searches.{Missed}
use Rattle.hash_index.proofs.search.find_cell.Given as goal

abbrev pub invariant-loop-passed : goal.invariant-loop-passed
invariant-loop-passed g l =
    Missed (λ cell. IsOf cell l.mixed → goal.F-post g l.eq cell.at false) l.cells (home l.count l.mixed) l._passed l.pos
