use Rattle.std.proofs.lemmas.Result.{MatchResult-weaker}
use Rattle.tool_cli.proofs.WordsLemmas.{option_added, option_local}
use Rattle.tool_cli.proofs.words.answering_command.Goals as goal

pub returns-clause-shape : goal.returns-clause-shape
returns-clause-shape c =
    MatchResult-weaker c.arg-2.result c.arg-2.ensures
    (λ command h p.
    let one = option_added c.command.result c.in_ok-arg.field-0 c.flag.result _ _ (c.command.ensures.shape p) c.flag.ensures.local (c.flag.ensures.rule p) c.in_ok-arg.ensures in
    option_added c.in_ok-arg.field-0 command c.why.result _ _ one c.why.ensures.local (c.why.ensures.rule p) h)
    (λ e h. h)

pub returns-clause-local : goal.returns-clause-local
returns-clause-local c =
    let one = option_local c.command.result c.in_ok-arg.field-0 c.flag.result c.command.ensures.local c.flag.ensures.local c.in_ok-arg.ensures in
    MatchResult-weaker c.arg-2.result c.arg-2.ensures
    (λ command h. option_local c.in_ok-arg.field-0 command c.why.result one c.why.ensures.local h) (λ e h. h)
