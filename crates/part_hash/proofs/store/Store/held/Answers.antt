use Rattle.std.proofs.Common.{ap, ◌∙◌}
use Rattle.std.specs.Option.{option_map}
use Rattle.part_core.specs.Rows.{Row}
use Rattle.part_hash.proofs.StandLemmas.{held_none, held_there}
use Rattle.part_hash.proofs.store.Store.held.Goals as goal

pub returns-in-Some : goal.returns-in-Some
returns-in-Some g c = λ o rows s.
    let found = c.in-Some.ensures.found o rows s in
    c.held_at.ensures ∙ ap (option_map (λ (r : Row). r.1)) found.1 ∙ held_there rows c.args.key.now found.0

pub returns-in-None : goal.returns-in-None
returns-in-None g c = λ o rows s. held_none rows c.args.key.now (c.in-None.ensures.found o rows s)
