use Rattle.std.proofs.Common.{ap}
use Rattle.term_core.specs.Datum.Datum.{binary}
use Rattle.term_core.proofs.ByteLemmas.{front_padded}
use Rattle.term_core.proofs.term.binary.binary_shape.Goals as goal

pub returns-then-count-le-SHORT-clause-value : goal.returns-then-count-le-SHORT-clause-value
returns-then-count-le-SHORT-clause-value g c =
    rw c.row_of.ensures (ap binary (front_padded 14 c.args.bytes.now c.if-count-le-SHORT.true))

pub returns-in-Ok-clause-value : goal.returns-in-Ok-clause-value
returns-in-Ok-clause-value g c =
    rw (c.in-Ok.ensures.ok, c.row_of-then-count-le-MIDDLE.ensures) (ap binary (front_padded 32 c.args.bytes.now c.if-count-le-MIDDLE.true))

pub returns-in-Ok-shared-clause-value : goal.returns-in-Ok-shared-clause-value
returns-in-Ok-shared-clause-value g c =
    rw (c.in-Ok-shared.ensures.ok, c.row_of-then-count-le-LARGE.ensures) (ap binary (front_padded 48 c.args.bytes.now c.if-count-le-LARGE.true))
