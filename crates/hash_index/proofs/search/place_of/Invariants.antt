use Rattle.std.proofs.Common.{◌≡◌}
use Rattle.hash_index.specs.Cells.{home}
use Rattle.hash_index.proofs.Cells.{IsOf}
use Rattle.hash_index.proofs.Searches.{Missed}
use Rattle.hash_index.proofs.search.place_of.Given as goal

abbrev pub invariant-loop-looked : goal.invariant-loop-looked
invariant-loop-looked l =
    Missed (λ cell. IsOf cell l.mixed → cell.at ≡ l.at → ⊥) l.cells (home l.count l.mixed) l._looked l.pos
