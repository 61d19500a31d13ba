use Rattle.std.proofs.Common.{◌∙◌, sym, codes}
use Rattle.clap.specs.Words.{found_of}
use Rattle.term_text.specs.Canonical.{shows_strings}
use Rattle.tool_cli.proofs.ReadLemmas.{flag_read, readable, unreadable}
use Rattle.tool_cli.proofs.words.form_in.Goals as goal

pub returns-then-get_flag : goal.returns-then-get_flag
returns-then-get_flag c = λ f is.
    readable f (sym c.if-get_flag.true ∙ flag_read (found_of c.args.matches.now) (codes "strings") (shows_strings f) c.get_flag.result is c.get_flag.ensures.value c.get_flag.ensures.other)

pub returns-else-get_flag : goal.returns-else-get_flag
returns-else-get_flag c = λ f is.
    unreadable f (sym c.if-get_flag.false ∙ flag_read (found_of c.args.matches.now) (codes "strings") (shows_strings f) c.get_flag.result is c.get_flag.ensures.value c.get_flag.ensures.other)
