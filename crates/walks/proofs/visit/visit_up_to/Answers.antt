use Rattle.std.proofs.Common.{◌≡◌, ◌∙◌, refl, sym, subst, option_map, ◌-◌, List}
use Rattle.std.proofs.lemmas.Result.{err_from_is_err_and}
use Rattle.term_core.specs.Datum.{Datum}
use Rattle.part_core.specs.declared.fault.Fault.{Fault}
use Rattle.part_core.specs.declared.fault.Fault.TheVariants.{Memory}
use Rattle.std.specs.Prelude.{Err, Result}
use Rattle.part_core.specs.Acts.Act.{Visit}
use Rattle.part_core.specs.Acts.Answer.{Refused}
use Rattle.part_core.specs.Acts.Purpose.{Answers}
use Rattle.part_core.specs.Ops.{refusal_of}
use Rattle.tables.specs.Turns.{Home, Views, Turned, Follows}
use Rattle.walk_core.specs.Goes.{way, up_to, Visits}
use Rattle.walk_core.specs.Moments.{AreLegal}
use Rattle.walk_core.specs.Walk.{part_at, scope_at}
use Rattle.walk_core.specs.Positions.{position_of}
use Rattle.walks.specs.Query.{IsWithin, kept_of, walk_of}
use Rattle.walks.proofs.VisitLemmas.{rest_wanted}
use Rattle.walks.proofs.GoingLemmas.{GoesBy, goes_nowhere, goes_once, stops_refused, no_stranger, is_walk}
use Rattle.walks.proofs.visit.visit_up_to.Goals as goal

err_same : (f : Fault) → (let result : Result (Unit {0}) Fault = Err f in result) ≡ Err Memory → f ≡ Memory
err_same f e = cc

pub loop-visit-init : goal.loop-visit-init
loop-visit-init g c =
    let h = g.T.TryTurns.home c.args.turns.now in
    (c.requires.ready, refl, c.requires.within, goes_nowhere h (walk_of h Answers c.args.query.now) (up_to c.args.limit) (position_of c.args.at.now) (kept_of c.args.kept.now) (g.T.TryTurns.sees c.args.turns.now))

pub loop-visit-preserved : goal.loop-visit-preserved
loop-visit-preserved g c =
    let h = g.T.TryTurns.home c.args.turns.now in
    let q = c.args.query.now in
    let before = g.T.TryTurns.sees c.args.turns.now in
    let now = g.T.TryTurns.sees c.loop-visit.turns in
    let later = g.T.TryTurns.sees c.visit_next.new.turns in
    let at = position_of c.loop-visit.at in
    let gained = kept_of c.settle.new.self in
    let so_far = subst (λ (ys : List Datum). Follows before now (GoesBy h (walk_of h Answers q) (up_to c.args.limit) (position_of c.args.at.now) (kept_of c.args.kept.now) at ys)) (sym c.settle.ensures.same) c.loop-visit.invariant.3 in
    let visit = subst (λ (home : Home). Follows now later (λ v w. Visits home (walk_of home Answers q) (up_to c.args.limit) (way v at gained) (way w (position_of c.visit_next.new.at) (kept_of c.visit_next.new.kept)))) c.loop-visit.invariant.1 (c.in_ok-visit_next.ensures.done (up_to c.args.limit) (rest_wanted c.args.limit c.len-found.result c.settle.new.self.earlier.items c.settle.new.self.last.items c.len-found.ensures.length c.in_ok-settle.ensures.settled)) in (
      c.visit_next.ensures.ready,
      c.visit_next.ensures.same ∙ c.loop-visit.invariant.1,
      subst (λ (home : Home). IsWithin home.options q c.visit_next.new.at) c.loop-visit.invariant.1 c.visit_next.ensures.within,
      goes_once h (walk_of h Answers q) (up_to c.args.limit) (position_of c.args.at.now) at (position_of c.visit_next.new.at) (kept_of c.args.kept.now) gained (kept_of c.visit_next.new.kept) before now later c.if-is_over.ensures so_far visit,
    )

pub returns-in_err-visit_next-clause-stopped : goal.returns-in_err-visit_next-clause-stopped
returns-in_err-visit_next-clause-stopped g c =
    let h = g.T.TryTurns.home c.args.turns.now in
    let q = c.args.query.now in
    let w = walk_of h Answers q in
    let before = g.T.TryTurns.sees c.args.turns.now in
    let now = g.T.TryTurns.sees c.loop-visit.turns in
    let later = g.T.TryTurns.sees c.visit_next.new.turns in
    let at = position_of c.loop-visit.at in
    let gained = kept_of c.settle.new.self in
    let n = c.args.limit - c.len-found.result in
    let so_far = subst (λ (ys : List Datum). Follows before now (GoesBy h w (up_to c.args.limit) (position_of c.args.at.now) (kept_of c.args.kept.now) at ys)) (sym c.settle.ensures.same) c.loop-visit.invariant.3 in
    let legal = subst (λ (home : Home). (v : Views) → now v → AreLegal home.options v) c.loop-visit.invariant.1 (λ v b part inside. g.met.T.TryTurns.legal c.loop-visit.turns v part c.loop-visit.invariant.0 b inside) in
    let turned = subst (λ (home : Home). Follows now later (Turned home (part_at (walk_of home Answers q) at) (Visit Answers q.code (scope_at (walk_of home Answers q) at) n) (option_map Refused (refusal_of c.in_err-visit_next.field-0.0)))) c.loop-visit.invariant.1 c.in_err-visit_next.ensures.refused in
    let back = err_from_is_err_and c.from_residual-in_err-visit_next.result c.from_residual-in_err-visit_next.ensures.1 in
    rw (back.1, back.2, c.in_err-visit_next.ensures.back.0, c.in_err-visit_next.ensures.back.1) (λ is. let scarce : c.in_err-visit_next.field-0.0 ≡ Memory = err_same c.in_err-visit_next.field-0.0 is in stops_refused h w (up_to c.args.limit) (position_of c.args.at.now) at (kept_of c.args.kept.now) gained before now later (part_at w at) (Visit Answers q.code (scope_at w at) n) legal so_far (subst (λ (f : Fault). Follows now later (Turned h (part_at w at) (Visit Answers q.code (scope_at w at) n) (option_map Refused (refusal_of f)))) scarce turned))

pub returns-in_err-visit_next-clause-foreign : goal.returns-in_err-visit_next-clause-foreign
returns-in_err-visit_next-clause-foreign g c =
    let h = g.T.TryTurns.home c.args.turns.now in
    let q = c.args.query.now in
    let w = walk_of h Answers q in
    let before = g.T.TryTurns.sees c.args.turns.now in
    let now = g.T.TryTurns.sees c.loop-visit.turns in
    let later = g.T.TryTurns.sees c.visit_next.new.turns in
    let at = position_of c.loop-visit.at in
    let gained = kept_of c.settle.new.self in
    let n = c.args.limit - c.len-found.result in
    let so_far = subst (λ (ys : List Datum). Follows before now (GoesBy h w (up_to c.args.limit) (position_of c.args.at.now) (kept_of c.args.kept.now) at ys)) (sym c.settle.ensures.same) c.loop-visit.invariant.3 in
    let turned = subst (λ (home : Home). Follows now later (Turned home (part_at (walk_of home Answers q) at) (Visit Answers q.code (scope_at (walk_of home Answers q) at) n) (option_map Refused (refusal_of c.in_err-visit_next.field-0.0)))) c.loop-visit.invariant.1 c.in_err-visit_next.ensures.refused in
    let back = err_from_is_err_and c.from_residual-in_err-visit_next.result c.from_residual-in_err-visit_next.ensures.1 in
    rw (back.1, back.2) (λ other. no_stranger h w (up_to c.args.limit) (position_of c.args.at.now) at (kept_of c.args.kept.now) gained before now later n c.in_err-visit_next.field-0.0 (record { options = refl; number = refl }) (is_walk h Answers q (g.met.T.TryTurns.fits c.args.turns.now c.requires.ready)) c.if-is_over.ensures other so_far turned)
