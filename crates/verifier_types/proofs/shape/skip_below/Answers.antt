use Rattle.std.proofs.Common.{arith, length, ◌<◌, ◌≤◌}
use Rattle.std.proofs.lemmas.List.{take_all}
use Rattle.std.proofs.lemmas.List.Elements.{All-take}
use Rattle.std.proofs.lemmas.Option.{slice_get_past}
use Rattle.mcode.specs.Program.{place_number}
use Rattle.verifier_types.proofs.shape.skip_below.Goals as goal

pub returns-clause-before : goal.returns-clause-before
returns-clause-before c =
    let places = c.args.places.now in
    let over : length places ≤ c.loop-index.index = omega (arith, c.loop-index-test.false) in
    let all = rw (take_all c.loop-index.index places over) at c.loop-index.invariant in
    All-take (λ place. place_number place < c.args.number) (length places) places all

pub returns-clause-here : goal.returns-clause-here
returns-clause-here c = rw (slice_get_past c.args.places.now (length c.args.places.now) (omega arith)) tt
