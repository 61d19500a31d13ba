use Rattle.std.proofs.Common.{◌≡◌, true, sym, ◌∙◌, arith}
use Rattle.std.specs.Str.{chars}
use Rattle.std.specs.Char.{is_ascii_digit, is_ascii_lowercase}
use Rattle.std.proofs.lemmas.Option.{IfSome_then}
use Rattle.term_text.proofs.Short.{plain_integer, plain_word}
use Rattle.term_text.proofs.read.plain.Goals as goal

pub returns-then-is_ascii_digit : goal.returns-then-is_ascii_digit
returns-then-is_ascii_digit g c =
    let digit : is_ascii_digit c.in_ok-first.first ≡ true = sym c.is_ascii_digit.ensures.value ∙ c.if-is_ascii_digit.true in
    IfSome_then c.plain_integer.result c.plain_integer.ensures
    (λ x is. plain_integer c.args.levels c.args.room (chars c.args.text.now) (chars c.in_ok-first._rest.now) (chars x.1.now) c.in_ok-first.first x.0 (omega (arith, c.if-levels-eq0.false)) (omega (arith, c.if-room-eq0.false)) c.in_ok-first.ensures.1 digit is)

pub returns-then-is_ascii_lowercase : goal.returns-then-is_ascii_lowercase
returns-then-is_ascii_lowercase g c =
    let small : is_ascii_lowercase c.in_ok-first.first ≡ true = sym c.is_ascii_lowercase.ensures.value ∙ c.if-is_ascii_lowercase.true in
    IfSome_then c.short_word.result c.short_word.ensures
    (λ x is. plain_word c.args.levels c.args.room (chars c.args.text.now) (chars c.in_ok-first._rest.now) (chars x.1.now) c.in_ok-first.first x.0 (omega (arith, c.if-levels-eq0.false)) (omega (arith, c.if-room-eq0.false)) c.in_ok-first.ensures.1 small is)
