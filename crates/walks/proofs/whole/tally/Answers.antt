use Rattle.std.proofs.Common.{◌≡◌, ◌≢◌, ap, subst}
use Rattle.std.specs.Prelude.{Err}
use Rattle.part_core.specs.declared.fault.Fault.TheVariants.{Memory}
use Rattle.tables.specs.Turns.{Views, Follows}
use Rattle.walk_core.specs.Walk.{Position, IsPosition, start_by}
use Rattle.walk_core.specs.Counting.{purpose_of}
use Rattle.walks.specs.Counting.{StopsAtCount}
use Rattle.walk_core.specs.Positions.{position_of}
use Rattle.walks.specs.Query.{plan_of, walk_of}
use Rattle.walks.proofs.CountingLemmas.{scarce_alone, starts_there}
use Rattle.walks.proofs.whole.tally.Goals as goal

pub returns-clause-stopped : goal.returns-clause-stopped
returns-clause-stopped g c =
    let h = g.T.TryTurns.home c.args.turns.now in
    let w = walk_of h (purpose_of c.args.counting) c.args.query.now in
    let before = g.T.TryTurns.sees c.args.turns.now in
    let now = g.T.TryTurns.sees c.count_on.new.turns in
    let fits = g.met.T.TryTurns.fits c.args.turns.now c.requires in
    let at : position_of c.start-at.result ≡ start_by (plan_of c.args.query.now h.options) 0 h.options.parts = c.start-at.ensures.at in
    let scarce : c.in-Err.field-0 ≡ Memory = scarce_alone w (start_by (plan_of c.args.query.now h.options) 0 h.options.parts) c.in-Err.field-0 before (g.met.T.TryTurns.seen c.args.turns.now c.requires) (λ v b. starts_there h (purpose_of c.args.counting) c.args.query.now v fits)
    (subst (λ (p : Position). c.in-Err.field-0 ≢ Memory → (v : Views) → before v → IsPosition w v p → ⊥) at c.in-Err.ensures.foreign) in
    let stops = subst (λ (p : Position). Follows before now (StopsAtCount h w p (position_of c.count_on.new.at) c.count_on.new.total)) at (c.in-Err.ensures.stopped (ap Err scarce)) in
    λ v b. let f = stops v b in (f.0, f.1, (position_of c.count_on.new.at, f.2))
