use Rattle.std.proofs.Common.{◌∙◌, sym, codes}
use Rattle.clap.specs.Words.{found_of}
use Rattle.tool_cli.specs.Words.{is_explained}
use Rattle.tool_cli.proofs.ReadLemmas.{flag_read, explained, unexplained}
use Rattle.tool_cli.proofs.words.detail_in.Goals as goal

pub returns-then-get_flag : goal.returns-then-get_flag
returns-then-get_flag c = λ d is.
    explained d (sym c.if-get_flag.true ∙ flag_read (found_of c.args.matches.now) (codes "why") (is_explained d) c.get_flag.result is c.get_flag.ensures.value c.get_flag.ensures.other)

pub returns-else-get_flag : goal.returns-else-get_flag
returns-else-get_flag c = λ d is.
    unexplained d (sym c.if-get_flag.false ∙ flag_read (found_of c.args.matches.now) (codes "why") (is_explained d) c.get_flag.result is c.get_flag.ensures.value c.get_flag.ensures.other)
