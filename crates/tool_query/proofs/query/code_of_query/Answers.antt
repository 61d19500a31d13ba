use Rattle.std.proofs.Common.{sym}
use Rattle.std.proofs.lemmas.Result.{err_from_is_err_and, MatchResult-weaker}
use Rattle.tool_query.proofs.QueryLemmas.{coded_query, meant_query, asks_nothing, for_memory, no_binary_at}
use Rattle.tool_query.proofs.query.code_of_query.Goals as goal

pub returns-in-Binary-clause-ok : goal.returns-in-Binary-clause-ok
returns-in-Binary-clause-ok g c =
    MatchResult-weaker c.load.result c.load.ensures.ok (λ code loaded. coded_query c.args.term.now c.in-Binary.bytes.now code (sym c.in-Binary.ensures.value) loaded) (λ e h. h)

pub returns-in_err-specification-clause-refused : goal.returns-in_err-specification-clause-refused
returns-in_err-specification-clause-refused g c =
    let other = no_binary_at c.args.term.now c.view.result c.view.ensures.value c.view.ensures.split c.in_default.not-Binary in
    let back = err_from_is_err_and c.from_residual.result c.from_residual.ensures.1 in
    rw (back.1, back.2) (asks_nothing c.args.term.now _ other c.in_err-specification.ensures.refused)

pub returns : goal.returns
returns g c =
    let other = no_binary_at c.args.term.now c.view.result c.view.ensures.value c.view.ensures.split c.in_default.not-Binary in
    record {
      ok = MatchResult-weaker c.code_from_file.result c.code_from_file.ensures.ok (λ code answers. meant_query c.args.term.now c.in_ok-specification.specification code other c.in_ok-specification.ensures.ok answers) (λ e h. h);
      refused = MatchResult-weaker c.code_from_file.result c.code_from_file.ensures.refused (λ x h. h) (λ f is. for_memory c.args.term.now f is);
    }
