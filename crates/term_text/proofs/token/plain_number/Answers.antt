use Rattle.std.proofs.Common.{rules}
use Rattle.std.specs.Str.{chars}
use Rattle.term_text.proofs.Short.{plain_number}
use Rattle.term_text.proofs.token.plain_number.Goals as goal

pub returns : goal.returns
returns c =
    let is = plain_number (chars c.args.text.now) (chars c.number-magnitude.result.1.now) c.number-magnitude.result.0 c.in_ok-value.value c.requires c.number-magnitude.ensures.value c.number-magnitude.ensures.rest c.in_ok-value.ensures in
    search (rules, is)
