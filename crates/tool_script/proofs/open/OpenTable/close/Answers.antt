use Rattle.std.proofs.Common.{◌∙◌}
use Rattle.std.proofs.lemmas.Result.{IfOk-weaker}
use Rattle.tables.specs.Local.{AreAfter}
use Rattle.tool_script.proofs.TableLemmas.{objects_are}
use Rattle.tool_script.proofs.open.OpenTable.close.Goals as goal

pub returns : goal.returns
returns g c =
    let table = c.args.self.table in
    IfOk-weaker c.objects.result _ _ (λ objects seen o there. seen there.table.views there.table.seen ∙ objects_are table.options (AreAfter g.P.Part.is_after table.parts.items) o.table there.table) c.objects.ensures
