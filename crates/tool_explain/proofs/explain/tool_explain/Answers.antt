use Rattle.std.proofs.Common.{inr}
use Rattle.std.proofs.lemmas.Result.{MatchResult-weaker}
use Rattle.tool_query.proofs.RunLemmas.{of_terms}
use Rattle.tool_explain.specs.Explain.{StopsExplanation}
use Rattle.tool_explain.proofs.explain.tool_explain.Goals as goal

pub returns-clause-refused : goal.returns-clause-refused
returns-clause-refused g c =
    let stopped = rw c.as_slice.ensures.value at c.explain_terms.ensures.stopped in
    MatchResult-weaker c.explain_terms.result stopped (λ x p. p)
    (λ f h. inr (of_terms (g.R.Read.remaining c.args.reader.now) c.in_ok-terms.terms.items (λ terms. StopsExplanation c.args.keypos terms (g.W.Write.contents c.args.writer.now) (g.W.Write.contents c.explain_terms.new.writer) f) c.in_ok-terms.ensures.ok h))
