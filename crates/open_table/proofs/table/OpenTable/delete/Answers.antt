use Rattle.part_core.specs.Acts.Act.{Delete}
use Rattle.part_core.specs.Acts.Answer.{Replied}
use Rattle.part_core.specs.Acts.Said.{Nothing}
use Rattle.open_table.proofs.ShowLemmas.{is_same, key_does}
use Rattle.open_table.proofs.table.OpenTable.delete.Goals as goal

pub returns-clause-same : goal.returns-clause-same
returns-clause-same g c =
    is_same c.args.self.now c.delete.new.turns c.delete.ensures.same

pub returns-clause-done : goal.returns-clause-done
returns-clause-done g c =
    let x = c.args.self.now in
    let y = c.delete.new.turns in
    key_does x y c.args.key.now (Delete c.args.key.now) (Replied Nothing) c.delete.ensures.same c.delete.ensures.done
