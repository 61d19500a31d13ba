use Rattle.std.proofs.Common.{◌∙◌, sym, ap, codes}
use Rattle.clap.specs.Words.{found_of}
use Rattle.tool_cli.specs.Words.{shell_for}
use Rattle.tool_cli.proofs.ReadLemmas.{flag_read}
use Rattle.tool_cli.proofs.words.shell_request.Goals as goal

pub returns-then-get_flag : goal.returns-then-get_flag
returns-then-get_flag c = λ b is.
    ap shell_for (sym c.if-get_flag.true ∙ flag_read (found_of c.args.matches.now) (codes "prompt") b c.get_flag.result is c.get_flag.ensures.value c.get_flag.ensures.other)

pub returns-else-get_flag : goal.returns-else-get_flag
returns-else-get_flag c = λ b is.
    ap shell_for (sym c.if-get_flag.false ∙ flag_read (found_of c.args.matches.now) (codes "prompt") b c.get_flag.result is c.get_flag.ensures.value c.get_flag.ensures.other)
