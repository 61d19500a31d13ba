use Rattle.std.proofs.Common.{◌≡◌, inr, rules}
use Rattle.std.proofs.lemmas.Result.{IfErr-weaker}
use Rattle.tool_script.proofs.run.run_with.Goals as goal

pub returns-clause-refused : goal.returns-clause-refused
returns-clause-refused g c =
    let read = c.in_ok-terms.ensures.ok in
    let same : c.as_slice.result.now ≡ c.in_ok-terms.terms.items = search rules in
    let stopped = rw same at c.run_terms.ensures.stopped in
    IfErr-weaker c.run_terms.result _ _ (λ fault stops. inr (read.0, read.1, (_, read.2, stops))) stopped
