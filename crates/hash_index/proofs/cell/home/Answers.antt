use Rattle.std.proofs.Common.{refl}
use Rattle.hash_index.specs.Cells.{home}
use Rattle.hash_index.proofs.cell.home.Goals as goal

pub returns-clause-value : goal.returns-clause-value
unfolding home
returns-clause-value c = refl
