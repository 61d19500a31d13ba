use Rattle.std.proofs.lemmas.Bool.{leb-false}
use Rattle.mcode.specs.Program.{place_number}
use Rattle.mcode.proofs.RiseLemmas.{rise_within}
use Rattle.verifier_types.proofs.shape.reach.Goals as goal

pub returns-in-Some-clause-below : goal.returns-in-Some-clause-below
returns-in-Some-clause-below c low =
    rise_within place_number c.args.places.now c.in-Some.last.now c.args.depth c.requires c.in-Some.ensures.value (leb-false _ _ low)
