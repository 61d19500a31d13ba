use Rattle.std.proofs.Common.{ap}
use Rattle.std.specs.Str.{chars}
use Rattle.term_core.specs.Datum.Datum.{atom}
use Rattle.term_core.proofs.ByteLemmas.{front_padded, padded-IsShortText, padded-IsMiddleText}
use Rattle.term_core.proofs.term.text.atom_shape.Goals as goal

pub returns-then-count-le-SHORT-clause-value : goal.returns-then-count-le-SHORT-clause-value
returns-then-count-le-SHORT-clause-value g c =
    rw (c.row_of.ensures, c.as_bytes.ensures.value) (ap (λ bs. atom (chars bs)) (front_padded 14 c.args.text.now c.if-count-le-SHORT.true))

pub returns-then-count-le-SHORT-clause-kept : goal.returns-then-count-le-SHORT-clause-kept
returns-then-count-le-SHORT-clause-kept g c =
    rw (c.row_of.ensures, c.as_bytes.ensures.value) (padded-IsShortText c.args.text.now c.if-count-le-SHORT.true c.utf8.text)

pub returns-in-Ok-clause-value : goal.returns-in-Ok-clause-value
returns-in-Ok-clause-value g c =
    rw (c.in-Ok.ensures.ok, c.row_of-then-count-le-MIDDLE.ensures, c.as_bytes-then-count-le-MIDDLE.ensures.value) (ap (λ bs. atom (chars bs)) (front_padded 32 c.args.text.now c.if-count-le-MIDDLE.true))

pub returns-in-Ok-clause-kept : goal.returns-in-Ok-clause-kept
returns-in-Ok-clause-kept g c =
    rw (c.in-Ok.ensures.ok, c.row_of-then-count-le-MIDDLE.ensures, c.as_bytes-then-count-le-MIDDLE.ensures.value) (padded-IsMiddleText c.args.text.now c.if-count-le-SHORT.false c.if-count-le-MIDDLE.true c.utf8.text)
