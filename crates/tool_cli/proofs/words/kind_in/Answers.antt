use Rattle.std.proofs.Common.{◌∙◌, sym}
use Rattle.clap.specs.Words.{found_of}
use Rattle.tool_cli.proofs.KindReads.{kind_read, none_some, some_same}
use Rattle.tool_cli.proofs.words.kind_in.Goals as goal

pub unreachable-requires : goal.unreachable-requires
unreachable-requires c =
    let read = kind_read _ (found_of c.args.matches.now) c.requires.0 c.get_one.result c.get_one.ensures.value c.requires.1 in
    none_some _ (sym c.in-None.is ∙ read)

pub returns : goal.returns
returns c = λ k is.
    let read = kind_read _ (found_of c.args.matches.now) k c.get_one.result c.get_one.ensures.value is in
    some_same _ _ (sym c.in-Some.is ∙ read)
