use Rattle.std.proofs.lemmas.Result.{IfOk-weaker}
use Rattle.tables.specs.Local.{AreAfter}
use Rattle.open_table.proofs.PartLemmas.{opened_is}
use Rattle.open_table.proofs.parts.open_in.Goals as goal

pub returns-clause-opened : goal.returns-clause-opened
returns-clause-opened g c =
    IfOk-weaker c.open.result _ _ (λ l o. (o.0, o.1, opened_is c.args.options l.options (AreAfter g.P.Part.is_after l.parts.items) o.1 o.2)) c.open.ensures.opened
