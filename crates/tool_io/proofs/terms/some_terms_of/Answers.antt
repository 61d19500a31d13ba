use Rattle.std.proofs.Common.{◌∙◌, ap, sym, length}
use Rattle.std.proofs.lemmas.Bool.{eqb-true}
use Rattle.tool_io.proofs.TermsLemmas.{input_empty}
use Rattle.tool_io.proofs.terms.some_terms_of.Goals as goal

pub returns-then-is_empty-clause-refused : goal.returns-then-is_empty-clause-refused
returns-then-is_empty-clause-refused g c =
    let none = eqb-true (length c.as_slice.result.now) 0 (sym c.is_empty.ensures ∙ c.if-is_empty.true) in
    input_empty c.args.input.now c.in_ok-terms.terms.items (ap length (sym c.as_slice.ensures.value) ∙ none) c.in_ok-terms.ensures.ok
