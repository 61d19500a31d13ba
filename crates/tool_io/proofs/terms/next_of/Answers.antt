use Rattle.tool_io.proofs.TermsLemmas.{next_unspelled}
use Rattle.tool_io.proofs.terms.next_of.Goals as goal

pub returns-in-Err-clause-refused : goal.returns-in-Err-clause-refused
returns-in-Err-clause-refused g c = λ ds front. rw c.from.ensures (next_unspelled c.a_text_has_one_fault.ensures c.args.text.now c.in-Err.refused (c.in-Err.ensures.cause ds front))
