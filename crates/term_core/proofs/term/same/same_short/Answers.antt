use Rattle.std.proofs.Common.{sym}
use Rattle.term_core.proofs.SameLemmas.{bytes_decide, counts_differ}
use Rattle.term_core.proofs.term.same.same_short.Goals as goal

pub returns-then-count-of : goal.returns-then-count-of
returns-then-count-of c =
    sym (counts_differ c.args.count c.args.of c.args.bytes c.args.others c.requires.left c.requires.right c.if-count-of.true)

pub returns : goal.returns
returns c =
    bytes_decide c.args.count c.args.of c.args.bytes c.args.others c.eq.result c.requires.left c.requires.right c.if-count-of.false
    (rw (c.as_slice.ensures, c.as_slice-2.ensures) at c.eq.ensures)
