use Rattle.part_core.specs.Acts.Act.{Member}
use Rattle.part_core.specs.Acts.Answer.{Replied}
use Rattle.part_core.specs.Acts.Said.{Flag}
use Rattle.open_table.proofs.ShowLemmas.{is_same, key_does}
use Rattle.open_table.proofs.table.OpenTable.member.Goals as goal

pub returns-clause-same : goal.returns-clause-same
returns-clause-same g c =
    is_same c.args.self.now c.member.new.turns c.member.ensures.same

pub returns-clause-done : goal.returns-clause-done
returns-clause-done g c =
    let x = c.args.self.now in
    let y = c.member.new.turns in
    key_does x y c.args.key.now (Member c.args.key.now) (Replied (Flag c.member.result)) c.member.ensures.same c.member.ensures.done
