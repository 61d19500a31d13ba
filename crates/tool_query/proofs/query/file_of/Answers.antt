use Rattle.std.proofs.lemmas.Result.{MatchResult-weaker}
use Rattle.tool_query.proofs.QueryLemmas.{file_is}
use Rattle.tool_query.proofs.query.file_of.Goals as goal

pub returns : goal.returns
returns g c =
    MatchResult-weaker c.encode.result c.encode.ensures.ok
    (λ bytes spells. file_is c.args.specification.now bytes.items c.in_ok-code.code c.code.result.now c.code.ensures.value c.in_ok-code.ensures.code spells c.code.ensures.typed c.in_ok-code.ensures.runs)
    (λ e h. h)
