use Rattle.std.proofs.Common.{inl}
use Rattle.std.proofs.lemmas.Result.{err_from_is_err_and}
use Rattle.tool_io.proofs.TermsLemmas.{unread}
use Rattle.tool_query.proofs.RunLemmas.{unread as stopped}
use Rattle.tool_query.proofs.run.tool_run.Goals as goal

pub returns-in_err-input-clause-refused : goal.returns-in_err-input-clause-refused
returns-in_err-input-clause-refused g c =
    let p = err_from_is_err_and c.from_residual.result c.from_residual.ensures.1 in
    rw (p.1, p.2) (inl (stopped _ _ _ _ (unread _ _ c.in_err-input.ensures.failed)))
