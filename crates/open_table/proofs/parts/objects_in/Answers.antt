use Rattle.std.proofs.Common.{◌∙◌}
use Rattle.std.proofs.lemmas.Result.{IfOk-weaker}
use Rattle.tables.specs.Local.{AreAfter}
use Rattle.open_table.proofs.PartLemmas.{objects_are}
use Rattle.open_table.proofs.parts.objects_in.Goals as goal

pub returns : goal.returns
returns g c =
    let l = c.args.table.now in
    IfOk-weaker c.objects.result _ _ (λ objects seen t at. seen at.views at.seen ∙ objects_are l.options (AreAfter g.P.Part.is_after l.parts.items) t at) c.objects.ensures
