use Rattle.tool_io.proofs.TermsLemmas.{text_refused}
use Rattle.cutterash.proofs.TextLemmas.{no_terms}
use Rattle.cutterash.proofs.text.some_terms.Goals as goal

pub returns-in-Err-clause-refused : goal.returns-in-Err-clause-refused
returns-in-Err-clause-refused c =
    let unspelled = text_refused c.args.text.now c.in-Err.fault c.in-Err.ensures.only c.in-Err.ensures.cause (λ at. (λ e. (c.in-Err.ensures.bad_utf8 at).0 (cc), λ v. let bad = (c.in-Err.ensures.bad_utf8 at).1 v in cc)) in
    rw c.from.ensures (no_terms c.args.text.now c.in-Err.fault unspelled)
