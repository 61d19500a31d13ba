use Rattle.open_table.proofs.ShowLemmas.{is_same, release_does}
use Rattle.open_table.proofs.table.OpenTable.release.Goals as goal

pub returns-clause-same : goal.returns-clause-same
returns-clause-same g c =
    is_same c.args.self.now c.release.new.turns c.release.ensures.same

pub returns-clause-done : goal.returns-clause-done
returns-clause-done g c =
    let x = c.args.self.now in
    let y = c.release.new.turns in
    release_does x y c.release.ensures.same c.release.ensures.done
