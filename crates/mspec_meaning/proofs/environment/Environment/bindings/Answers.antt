use Rattle.std.proofs.Common.{◌∙◌, ap}
use Rattle.std.proofs.lemmas.Result.{IfOk-weaker}
use Rattle.term_core.specs.Datum.{cells}
use Rattle.term_core.specs.Datum.Datum.{nil}
use Rattle.mspec_meaning.specs.Made.{made}
use Rattle.mspec_meaning.proofs.environment.Environment.bindings.Goals as goal

pub returns : goal.returns
returns g c =
    let mode = c.args.self.now.mode in
    IfOk-weaker c.list.result _ _
    (λ value h.
    h ∙ ap (λ t. made mode (cells c.in_ok-values.values.items t)) c.nil.ensures
    ∙ ap (λ l. made mode (cells l nil)) c.in_ok-values.ensures)
    c.list.ensures
