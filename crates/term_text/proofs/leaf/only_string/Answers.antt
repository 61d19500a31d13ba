use Rattle.std.specs.Str.{chars}
use Rattle.term_text.proofs.QuotedRuns.{one_string}
use Rattle.term_text.proofs.leaf.only_string.Goals as goal

pub returns : goal.returns
returns c = one_string (chars c.args.text.now) (chars c.in_ok-behind.field-0.now) (chars c.in_ok-run.rest.now) (chars c.in_ok-rest.rest.now) c.in_ok-run.run'.now c.in_ok-behind.ensures (rw c.byte_marks.ensures at c.in_ok-run.ensures.value) c.in_ok-rest.ensures
