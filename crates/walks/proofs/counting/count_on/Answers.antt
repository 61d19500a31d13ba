use Rattle.std.proofs.Common.{◌≡◌, ◌∙◌, refl, subst, option_map}
use Rattle.std.specs.Prelude.{Err, Result}
use Rattle.std.proofs.lemmas.Result.{err_from_is_err_and}
use Rattle.part_core.specs.declared.fault.Fault.{Fault}
use Rattle.part_core.specs.declared.fault.Fault.TheVariants.{Memory}
use Rattle.part_core.specs.Acts.Act.{Visit}
use Rattle.part_core.specs.Acts.Answer.{Refused}
use Rattle.part_core.specs.Ops.{refusal_of}
use Rattle.part_core.specs.Replies.{most_counted}
use Rattle.tables.specs.Turns.{Home, Views, Turned, Follows}
use Rattle.walk_core.specs.Moments.{AreLegal}
use Rattle.walk_core.specs.Walk.{part_at, scope_at}
use Rattle.walk_core.specs.Counting.{purpose_of}
use Rattle.walks.specs.Counting.{CountsMore}
use Rattle.walk_core.specs.Positions.{position_of}
use Rattle.walks.specs.Query.{IsWithin, walk_of}
use Rattle.walks.proofs.CountingLemmas.{counts_nothing, counts_once, count_stops, count_foreign}
use Rattle.walks.proofs.GoingLemmas.{is_walk}
use Rattle.walks.proofs.counting.count_on.Goals as goal

err_same : (f : Fault) → (let result : Result (Unit {0}) Fault = Err f in result) ≡ Err Memory → f ≡ Memory
err_same f e = cc

pub loop-visit-init : goal.loop-visit-init
loop-visit-init g c =
    let h = g.T.TryTurns.home c.args.turns.now in
    (c.requires.ready, refl, c.requires.within, counts_nothing h (walk_of h (purpose_of c.args.counting) c.args.query.now) (position_of c.args.at.now) c.args.total.now (g.T.TryTurns.sees c.args.turns.now) c.requires.none)

pub loop-visit-preserved : goal.loop-visit-preserved
loop-visit-preserved g c =
    let h = g.T.TryTurns.home c.args.turns.now in
    let q = c.args.query.now in
    let purpose = purpose_of c.args.counting in
    let before = g.T.TryTurns.sees c.args.turns.now in
    let now = g.T.TryTurns.sees c.loop-visit.turns in
    let later = g.T.TryTurns.sees c.count_next.new.turns in
    let at = position_of c.loop-visit.at in
    let visit = subst (λ (home : Home). Follows now later (CountsMore home (walk_of home purpose q) at (position_of c.count_next.new.at) c.in_ok-count.count)) c.loop-visit.invariant.1 c.in_ok-count.ensures.done in (
      c.count_next.ensures.ready,
      c.count_next.ensures.same ∙ c.loop-visit.invariant.1,
      subst (λ (home : Home). IsWithin home.options q c.count_next.new.at) c.loop-visit.invariant.1 c.count_next.ensures.within,
      counts_once h (walk_of h purpose q) (position_of c.args.at.now) at (position_of c.count_next.new.at) c.loop-visit.total c.in_ok-count.count c.capped_sum.result before now later c.if-is_over.ensures c.capped_sum.ensures c.loop-visit.invariant.3 visit,
    )

pub returns-in_err-count-clause-stopped : goal.returns-in_err-count-clause-stopped
returns-in_err-count-clause-stopped g c =
    let h = g.T.TryTurns.home c.args.turns.now in
    let q = c.args.query.now in
    let purpose = purpose_of c.args.counting in
    let w = walk_of h purpose q in
    let before = g.T.TryTurns.sees c.args.turns.now in
    let now = g.T.TryTurns.sees c.loop-visit.turns in
    let later = g.T.TryTurns.sees c.count_next.new.turns in
    let at = position_of c.loop-visit.at in
    let legal = subst (λ (home : Home). (v : Views) → now v → AreLegal home.options v) c.loop-visit.invariant.1 (λ v b part inside. g.met.T.TryTurns.legal c.loop-visit.turns v part c.loop-visit.invariant.0 b inside) in
    let turned = subst (λ (home : Home). Follows now later (Turned home (part_at (walk_of home purpose q) at) (Visit purpose q.code (scope_at (walk_of home purpose q) at) most_counted) (option_map Refused (refusal_of c.in_err-count.field-0.0)))) c.loop-visit.invariant.1 c.in_err-count.ensures.refused in
    let back = err_from_is_err_and c.from_residual.result c.from_residual.ensures.1 in
    rw (back.1, back.2, c.in_err-count.ensures.back) (λ is. count_stops h w (position_of c.args.at.now) at c.loop-visit.total before now later (part_at w at) (Visit purpose q.code (scope_at w at) most_counted) legal c.loop-visit.invariant.3 (subst (λ (f : Fault). Follows now later (Turned h (part_at w at) (Visit purpose q.code (scope_at w at) most_counted) (option_map Refused (refusal_of f)))) (err_same c.in_err-count.field-0.0 is) turned))

pub returns-in_err-count-clause-foreign : goal.returns-in_err-count-clause-foreign
returns-in_err-count-clause-foreign g c =
    let h = g.T.TryTurns.home c.args.turns.now in
    let q = c.args.query.now in
    let purpose = purpose_of c.args.counting in
    let w = walk_of h purpose q in
    let before = g.T.TryTurns.sees c.args.turns.now in
    let now = g.T.TryTurns.sees c.loop-visit.turns in
    let later = g.T.TryTurns.sees c.count_next.new.turns in
    let at = position_of c.loop-visit.at in
    let turned = subst (λ (home : Home). Follows now later (Turned home (part_at (walk_of home purpose q) at) (Visit purpose q.code (scope_at (walk_of home purpose q) at) most_counted) (option_map Refused (refusal_of c.in_err-count.field-0.0)))) c.loop-visit.invariant.1 c.in_err-count.ensures.refused in
    let back = err_from_is_err_and c.from_residual.result c.from_residual.ensures.1 in
    rw (back.1, back.2) (λ other. count_foreign h w (position_of c.args.at.now) at c.loop-visit.total before now later c.in_err-count.field-0.0 (record { options = refl; number = refl }) (is_walk h purpose q (g.met.T.TryTurns.fits c.args.turns.now c.requires.ready)) c.if-is_over.ensures other c.loop-visit.invariant.3 turned)
