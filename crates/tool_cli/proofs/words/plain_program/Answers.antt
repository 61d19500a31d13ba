use Rattle.std.proofs.Common.{◌∙◌, ap}
use Rattle.std.proofs.lemmas.Result.{MatchResult-weaker}
use Rattle.clap.specs.Words.{with_subcommand}
use Rattle.tool_cli.specs.Words.{command_shape, to_run, to_test, to_compile, to_verify, to_script}
use Rattle.tool_cli.proofs.words.plain_program.Goals as goal

pub returns : goal.returns
returns c =
    MatchResult-weaker c.with_plain-3.result c.with_plain-3.ensures
    (λ command h p.
    let one = c.in_ok-program.ensures p ∙ ap (λ a. with_subcommand a (command_shape p to_run)) c.tool.ensures in
    let two = c.in_ok-program-2.ensures p ∙ ap (λ a. with_subcommand a (command_shape p to_test)) one in
    let three = c.in_ok-program-3.ensures p ∙ ap (λ a. with_subcommand a (command_shape p to_compile)) two in
    let four = c.in_ok-program-4.ensures p ∙ ap (λ a. with_subcommand a (command_shape p to_verify)) three in
    h p ∙ ap (λ a. with_subcommand a (command_shape p to_script)) four)
    (λ e h. h)
