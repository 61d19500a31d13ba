use Rattle.std.proofs.Common.{◌∙◌, sym}
use Rattle.std.specs.Str.Parse.{ParsesUnsigned, ExplainsUnsignedError, HasUnsignedDigitsIfOk}
use Rattle.clap.specs.Words.{found_of}
use Rattle.tool_cli.proofs.NumberLemmas.{option_read, none_some, some_same}
use Rattle.tool_cli.proofs.words.number.Goals as goal

pub unreachable-requires : goal.unreachable-requires
unreachable-requires c =
    let read = option_read _ (λ bs r. ParsesUnsigned 16 10 bs r × ExplainsUnsignedError 10 bs r × HasUnsignedDigitsIfOk bs r)
    (found_of c.args.matches.now) c.args.name.now c.requires.0 c.requires.1 c.get_one.result (λ u x g. g.0) c.get_one.ensures.value c.requires.2 c.requires.3 in
    none_some _ (sym c.in-None.is ∙ read.0)

pub returns : goal.returns
returns c = λ most n small is.
    let read = option_read _ (λ bs r. ParsesUnsigned 16 10 bs r × ExplainsUnsignedError 10 bs r × HasUnsignedDigitsIfOk bs r)
    (found_of c.args.matches.now) c.args.name.now most n c.get_one.result (λ u x g. g.0) c.get_one.ensures.value small is in
    (some_same _ _ (sym c.in-Some.is ∙ read.0), read.1)
