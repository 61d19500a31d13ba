use Rattle.std.proofs.Common.{◌≤◌, length, sym, arith}
use Rattle.std.proofs.lemmas.Bool.{le-leb}
use Rattle.std.specs.Str.{chars}
use Rattle.term_core.specs.declared.TheConstants.{MAX_CHARACTERS}
use Rattle.term_core.proofs.TextLemmas.{length-chars}
use Rattle.term_core.proofs.term.text.is_within.Goals as goal

pub returns-then-text-le-MAX_CHARACTERS : goal.returns-then-text-le-MAX_CHARACTERS
returns-then-text-le-MAX_CHARACTERS c =
    let short : length (chars c.args.text.now) ≤ MAX_CHARACTERS = omega (arith, length-chars c.args.text.now c.utf8.text) in
    sym (le-leb _ _ short)
