use Rattle.std.proofs.Common.{sym, map, subst, Ok}
use Rattle.tool_cli.specs.Words.{asked, Reads}
use Rattle.tool_cli.proofs.WordsLemmas.{handed_on, memory_handed, command_read, words_refused}
use Rattle.tool_cli.proofs.words.read_words.Goals as goal

pub returns-in_err-program : goal.returns-in_err-program
returns-in_err-program g c =
    memory_handed (asked (map g.S.AsStr.text c.args.words.now)) c.from_residual.result c.from_residual.ensures.1

pub returns-in_err-matches : goal.returns-in_err-matches
returns-in_err-matches g c =
    let words = map g.S.AsStr.text c.args.words.now in
    handed_on (asked words) c.in_err-matches.field-0.0 c.from_residual-in_err-matches.result c.from_residual-in_err-matches.ensures.1
    (words_refused c.in_ok-program.ensures.0 c.in_ok-program.ensures.1 _ words c.in_err-matches.field-0.0 c.in_ok-program.ensures.2 c.in_err-matches.ensures.kinds)

pub entered-requires : goal.entered-requires
entered-requires g c =
    let words = map g.S.AsStr.text c.args.words.now in
    let read = command_read c.in_ok-program.ensures.0 c.in_ok-program.ensures.1 _ words c.in_ok-matches.matches c.in_ok-program.ensures.2 c.in_ok-matches.ensures.kinds c.in_ok-matches.ensures.matches in
    (read.0, read.2)

pub returns : goal.returns
returns g c =
    let words = map g.S.AsStr.text c.args.words.now in
    let read = command_read c.in_ok-program.ensures.0 c.in_ok-program.ensures.1 _ words c.in_ok-matches.matches c.in_ok-program.ensures.2 c.in_ok-matches.ensures.kinds c.in_ok-matches.ensures.matches in
    subst (λ a. Reads a (Ok c.entered.result)) (sym read.1) (c.entered.ensures read.0 read.2)
