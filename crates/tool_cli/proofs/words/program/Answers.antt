use Rattle.std.proofs.lemmas.Result.{MatchResult-weaker}
use Rattle.tool_cli.proofs.WordsLemmas.{command_added}
use Rattle.tool_cli.proofs.words.program.Goals as goal

pub returns : goal.returns
returns c =
    let shape = c.in_ok-scan_command.ensures.shape in
    let p = shape.0 in
    let one = command_added c.in_ok-plain_program.field-0 c.in_ok-subcommand.field-0 c.in_ok-shell_command.field-0 _ _ (c.in_ok-plain_program.ensures p) c.in_ok-shell_command.ensures.local (c.in_ok-shell_command.ensures.shape p) c.in_ok-subcommand.ensures in
    let two = command_added c.in_ok-subcommand.field-0 c.in_ok-subcommand-2.field-0 c.in_ok-scan_command.field-0 _ _ one c.in_ok-scan_command.ensures.local shape.2 c.in_ok-subcommand-2.ensures in
    MatchResult-weaker c.subcommand-3.result c.subcommand-3.ensures
    (λ command h. (p, shape.1, command_added c.in_ok-subcommand-2.field-0 command c.in_ok-explain_command.field-0 _ _ two c.in_ok-explain_command.ensures.local (c.in_ok-explain_command.ensures.shape p) h))
    (λ e h. h)
