use Rattle.tool_io.proofs.TermsLemmas.{text_refused}
use Rattle.tool_io.proofs.terms.terms_of.Goals as goal

pub returns-in-Err-clause-refused : goal.returns-in-Err-clause-refused
returns-in-Err-clause-refused g c =
    rw c.from.ensures (text_refused c.args.input.now c.in-Err.fault c.in-Err.ensures.only c.in-Err.ensures.cause (λ at. (λ e. (c.in-Err.ensures.bad_utf8 at).0 (cc), λ v. let bad = (c.in-Err.ensures.bad_utf8 at).1 v in cc)))
