use Rattle.std.proofs.Common.{[], rules}
use Rattle.std.proofs.lemmas.Result.{err_from_is_err_and}
use Rattle.term_text.specs.Text.Front.{at_first}
use Rattle.tool_io.proofs.TermsLemmas.{unspelled_is_unread, nothing_first}
use Rattle.tool_io.proofs.terms.first_of.Goals as goal

pub returns-in_err-first-clause-refused : goal.returns-in_err-first-clause-refused
returns-in_err-first-clause-refused g c =
    let p = err_from_is_err_and c.from_residual.result c.from_residual.ensures.1 in
    rw (p.1, p.2) (unspelled_is_unread c.args.text.now _ (c.in_err-first.ensures.refused [] at_first))

pub returns-in-None-clause-refused : goal.returns-in-None-clause-refused
returns-in-None-clause-refused g c = nothing_first c.args.text.now (search rules) (rw c.in-None.is at c.in_ok-first.ensures.ok)
