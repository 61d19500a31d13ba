use Rattle.std.proofs.Common.{sym}
use Rattle.term_core.proofs.ViewLemmas.{rank-cells}
use Rattle.term_core.proofs.view.View.rank.Goals as goal

pub returns-in-List : goal.returns-in-List
returns-in-List g c =
    let split = rw c.in-List.is at c.requires in
    rw c.in-List.is (sym (rank-cells c.in-List._elements.now _ split.0))
