use Rattle.std.proofs.lemmas.Result.{MatchResult-weaker}
use Rattle.std.proofs.Common.{refl}
use Rattle.tool_cli.proofs.WordsLemmas.{command_added}
use Rattle.tool_cli.proofs.words.with_answering.Goals as goal

pub returns : goal.returns
returns c =
    MatchResult-weaker c.subcommand.result c.subcommand.ensures
    (λ command h p. command_added _ command c.in_ok-answering_command.field-0 _ _ refl c.in_ok-answering_command.ensures.local (c.in_ok-answering_command.ensures.shape p) h)
    (λ e h. h)
