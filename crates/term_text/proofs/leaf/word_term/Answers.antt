use Rattle.std.specs.Str.{chars}
use Rattle.term_text.proofs.Constructed.{word_within}
use Rattle.term_text.proofs.leaf.word_term.Goals as goal

pub atom_of-requires : goal.atom_of-requires
atom_of-requires g c = word_within (chars c.args.text.now) (chars c.in_ok-letters.letters.now) (chars c.in_ok-letters.rest.now) c.in_ok-letters.ensures
