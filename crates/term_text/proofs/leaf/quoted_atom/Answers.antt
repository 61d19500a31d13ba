use Rattle.std.specs.Str.{chars}
use Rattle.term_text.proofs.Constructed.{quoted_atom_within}
use Rattle.term_text.proofs.leaf.quoted_atom.Goals as goal

pub atom_of_characters-requires : goal.atom_of_characters-requires
atom_of_characters-requires g c =
    rw c.as_slice.ensures.value (quoted_atom_within (chars c.args.text.now) c.in_ok-characters.characters.items (chars c.in_ok-characters.rest.now) c.in_ok-characters.ensures.value)

pub atom_of-requires : goal.atom_of-requires
atom_of-requires g c = rw c.in-Some.ensures.text (quoted_atom_within (chars c.args.text.now) c.in-Some.run'.now (chars c.in-Some.rest.now) c.in-Some.ensures.value)
