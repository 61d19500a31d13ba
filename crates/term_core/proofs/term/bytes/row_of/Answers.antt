use Rattle.std.proofs.Common.{◌∙◌, ap, arith}
use Rattle.std.proofs.lemmas.List.{take_all}
use Rattle.term_core.specs.Term.{padded}
use Rattle.term_core.proofs.ByteLemmas.{padded_none, padded_more}
use Rattle.term_core.proofs.term.bytes.row_of.Goals as goal

pub loop-i-init : goal.loop-i-init
loop-i-init g c = padded_none g.row.N c.args.bytes.now

pub loop-i-preserved : goal.loop-i-preserved
loop-i-preserved g c =
    let more = padded_more g.row.N c.loop-i.i c.args.bytes.now (omega arith) c.loop-i-test.true in
    rw c.loop-i.invariant more

pub returns : goal.returns
returns g c =
    c.loop-i.invariant ∙ ap (padded g.row.N) (take_all c.loop-i.i c.args.bytes.now c.loop-i-test.false)
