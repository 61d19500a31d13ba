use Rattle.tool_io.proofs.TermsLemmas.{refusal_unspelled}
use Rattle.tool_io.proofs.terms.text_of.Goals as goal

pub returns-in-Err-clause-refused : goal.returns-in-Err-clause-refused
returns-in-Err-clause-refused c = rw c.from.ensures (refusal_unspelled c.a_text_has_one_fault.ensures c.args.input.now c.in-Err.refused c.in-Err.ensures.refused)
