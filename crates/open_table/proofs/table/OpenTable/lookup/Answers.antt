use Rattle.std.proofs.lemmas.Result.{IfErr-weaker, IfOk-weaker}
use Rattle.part_core.specs.Acts.Act.{Lookup}
use Rattle.part_core.specs.Acts.Answer.{Replied}
use Rattle.part_core.specs.Acts.Said.{Objects}
use Rattle.open_table.proofs.ShowLemmas.{is_same, key_does, key_stays}
use Rattle.open_table.proofs.table.OpenTable.lookup.Goals as goal

pub returns-clause-same : goal.returns-clause-same
returns-clause-same g c =
    is_same c.args.self.now c.lookup.new.turns c.lookup.ensures.same

pub returns-clause-done : goal.returns-clause-done
returns-clause-done g c =
    let x = c.args.self.now in
    let y = c.lookup.new.turns in
    IfOk-weaker c.lookup.result _ _ (λ found follows. key_does x y c.args.key.now (Lookup c.args.key.now) (Replied (Objects found.items)) c.lookup.ensures.same follows) c.lookup.ensures.done

pub returns-clause-refused : goal.returns-clause-refused
returns-clause-refused g c =
    let x = c.args.self.now in
    let y = c.lookup.new.turns in
    IfErr-weaker c.lookup.result _ _ (λ u follows. key_stays x y c.args.key.now (Lookup c.args.key.now) c.lookup.ensures.same follows) c.lookup.ensures.refused
