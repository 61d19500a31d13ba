use Rattle.std.proofs.lemmas.Result.{MatchResult-weaker}
use Rattle.tool_cli.proofs.WordsLemmas.{option_added, option_local}
use Rattle.tool_cli.proofs.words.plain_command.Goals as goal

pub returns-clause-shape : goal.returns-clause-shape
returns-clause-shape c =
    MatchResult-weaker c.arg.result c.arg.ensures
    (λ command h p. option_added c.command.result command c.why.result _ _ (c.command.ensures.shape p) c.why.ensures.local (c.why.ensures.rule p) h)
    (λ e h. h)

pub returns-clause-local : goal.returns-clause-local
returns-clause-local c =
    MatchResult-weaker c.arg.result c.arg.ensures
    (λ command h. option_local c.command.result command c.why.result c.command.ensures.local c.why.ensures.local h) (λ e h. h)
