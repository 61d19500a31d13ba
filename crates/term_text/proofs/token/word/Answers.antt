use Rattle.std.proofs.Common.{arith}
use Rattle.term_text.proofs.ByteWords.{word_is, word_is_long, cut_word}
use Rattle.term_text.proofs.token.word.Goals as goal

pub range_from-requires : goal.range_from-requires
range_from-requires c = λ _. cut_word c.args.text.now c.letter_count-count.result 255 c.utf8.text c.letter_count-count.ensures (omega (arith, c.if-count-gt-MAX_CHARACTERS.true))

pub returns-then-count-gt-MAX_CHARACTERS : goal.returns-then-count-gt-MAX_CHARACTERS
returns-then-count-gt-MAX_CHARACTERS c =
    rw (c.stop.ensures, c.range_from.ensures.value)
    (word_is_long c.args.text.now c.letter_count-count.result c.utf8.text c.letter_count-count.ensures (omega (arith, c.if-count-gt-MAX_CHARACTERS.true)))

pub split_at-requires : goal.split_at-requires
split_at-requires c = cut_word c.args.text.now c.letter_count-count.result c.letter_count-count.result c.utf8.text c.letter_count-count.ensures (omega arith)

pub returns : goal.returns
returns c =
    rw (c.split_at.ensures.front, c.split_at.ensures.back)
    (word_is c.args.text.now c.letter_count-count.result c.utf8.text c.letter_count-count.ensures (omega (arith, c.if-count-gt-MAX_CHARACTERS.false)))
