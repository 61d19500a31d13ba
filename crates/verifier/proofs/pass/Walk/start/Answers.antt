use Rattle.std.proofs.Common.{rules, ◌≡◌, []}
use Rattle.verifier.proofs.PassLemmas.{walked_none}
use Rattle.verifier.proofs.pass.Walk.start.Goals as goal

pub returns : goal.returns
returns g c = λ ds.
    let none : c.in_ok-depths.depths.items ≡ [] = search rules in
    rw none (walked_none c.args.body.now ds c.in_ok-shape.shape c.in_ok-shape.ensures)
