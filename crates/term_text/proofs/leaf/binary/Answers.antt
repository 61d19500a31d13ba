use Rattle.std.specs.Str.{chars}
use Rattle.term_text.proofs.Constructed.{binary_made, binary_within}
use Rattle.term_text.proofs.leaf.binary.Goals as goal

pub binary_of-requires-2 : goal.binary_of-requires-2
binary_of-requires-2 g c = rw c.as_slice.ensures.value (binary_within (chars c.args.text.now) c.in_ok-bytes.bytes.items (chars c.in_ok-bytes.rest.now) (chars c.in_ok-rest.rest.now) (rw c.after_gap-text.ensures at c.in_ok-bytes.ensures) c.in_ok-rest.ensures)

pub binary_of-requires-in-Some-only_string : goal.binary_of-requires-in-Some-only_string
binary_of-requires-in-Some-only_string g c = rw c.as_bytes.ensures.value (binary_made (chars c.args.text.now) c.in-Some-only_string.run'.now (chars c.in-Some-only_string.rest.now) (rw c.after_gap-text.ensures at c.in-Some-only_string.ensures))
