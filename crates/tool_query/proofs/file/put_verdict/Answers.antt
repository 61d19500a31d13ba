use Rattle.std.proofs.Common.{◌≡◌, rules, pos}
use Rattle.std.proofs.lemmas.Result.{on_ok_weaker}
use Rattle.term_core.specs.Datum.Datum.{integer}
use Rattle.tool_query.proofs.TextLemmas.{verdict_put}
use Rattle.tool_query.proofs.file.put_verdict.Goals as goal

pub returns : goal.returns
returns g c =
    let first : c.int-budget.result ≡ integer (pos c.args.budget) = search rules in
    let second : c.int-depth.result ≡ integer (pos c.args.depth) = search rules in
    on_ok_weaker c.put_line-2.result (λ p. verdict_put _ _ _ c.int-budget.result c.int-depth.result c.args.budget c.args.depth first second c.in_ok-put_line.ensures.ok p)
    c.put_line-2.ensures.ok
