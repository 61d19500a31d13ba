use Rattle.std.proofs.Common.{◌∙◌, refl, ap, sym, subst, option_map}
use Rattle.part_core.specs.Ops.{cursor_of}
use Rattle.tables.specs.Turns.{Home, Views, Follows}
use Rattle.walk_core.specs.Moments.{AreLegal}
use Rattle.walk_core.specs.Walk.{scope_from, start_of}
use Rattle.walk_core.specs.Walk.Position.{InPart}
use Rattle.walks.specs.Query.{plan_of}
use Rattle.parallel_select.specs.Gained.{purpose_of}
use Rattle.parallel_select.specs.Parts.{part_walk, Visited, Missed}
use Rattle.parallel_select.proofs.GainLemmas.{gains_nothing, gains_once, gains_so_far, gains_until}
use Rattle.parallel_select.proofs.WalkLemmas.{part_is_walk, starts_there, unnamed_plan, ends_there, goes_on_there, not_over, none_left, some_left}
use Rattle.parallel_select.proofs.visits.visit_rest.Goals as goal

pub loop-visit-init : goal.loop-visit-init
loop-visit-init g c =
    let h = g.T.TryTurns.home c.args.turns.now in
    let w = part_walk h (purpose_of c.args.asking) c.args.query.now c.args.part in
    let begins = starts_there w c.args.part (unnamed_plan h.options c.args.part (plan_of c.args.query.now h.options) c.requires.unnamed) refl refl ∙ ap (λ (x : _). InPart c.args.part (option_map cursor_of x)) (sym c.requires.begins) in
    (c.requires.ready, refl, c.requires.purpose, gains_nothing h w (start_of w) (InPart c.args.part (option_map cursor_of c.args.cursor.now)) c.args.gained.now (g.T.TryTurns.sees c.args.turns.now) begins)

pub loop-visit-preserved : goal.loop-visit-preserved
loop-visit-preserved g c =
    let h = g.T.TryTurns.home c.args.turns.now in
    let purpose = purpose_of c.args.asking in
    let w = part_walk h purpose c.args.query.now c.args.part in
    let before = g.T.TryTurns.sees c.args.turns.now in
    let now = g.T.TryTurns.sees c.loop-visit.turns in
    let later = g.T.TryTurns.sees c.visit_from.new.turns in
    let at = option_map cursor_of c.loop-visit.cursor in
    let next = option_map cursor_of c.visit_from.new.cursor in
    let more = some_left cursor_of c.visit_from.new.cursor (sym c.in-Ok-true.ensures.more ∙ c.in-Ok-true.field-0-test) in
    let visit = subst (λ (home : Home). Follows now later (Visited home c.args.part purpose c.args.query.now.code (scope_from at) next c.loop-visit.gained c.visit_from.new.gained)) c.loop-visit.invariant.1 c.in-Ok-true.ensures.done in (
      c.visit_from.ensures.ready,
      c.visit_from.ensures.same ∙ c.loop-visit.invariant.1,
      c.visit_from.ensures.purpose,
      gains_once h w (start_of w) (InPart c.args.part at) (InPart c.args.part next) next c.args.gained.now c.loop-visit.gained c.visit_from.new.gained before now later (record { options = refl; number = refl }) (not_over c.args.part at) (goes_on_there w c.args.part at next more) c.loop-visit.invariant.3 visit,
    )

pub returns-in-Ok-false-clause-done : goal.returns-in-Ok-false-clause-done
returns-in-Ok-false-clause-done g c =
    let h = g.T.TryTurns.home c.args.turns.now in
    let purpose = purpose_of c.args.asking in
    let w = part_walk h purpose c.args.query.now c.args.part in
    let before = g.T.TryTurns.sees c.args.turns.now in
    let now = g.T.TryTurns.sees c.loop-visit.turns in
    let later = g.T.TryTurns.sees c.visit_from.new.turns in
    let at = option_map cursor_of c.loop-visit.cursor in
    let next = option_map cursor_of c.visit_from.new.cursor in
    let none = none_left cursor_of c.visit_from.new.cursor (sym c.in-Ok-false.ensures.more ∙ c.in-Ok-false.field-0-test) in
    let visit = subst (λ (home : Home). Follows now later (Visited home c.args.part purpose c.args.query.now.code (scope_from at) next c.loop-visit.gained c.visit_from.new.gained)) c.loop-visit.invariant.1 c.in-Ok-false.ensures.done in
    gains_once h w (start_of w) (InPart c.args.part at) _ next c.args.gained.now c.loop-visit.gained c.visit_from.new.gained before now later (record { options = refl; number = refl }) (not_over c.args.part at) (ends_there w c.args.part at next refl none) c.loop-visit.invariant.3 visit

pub returns-in-Err-clause-refused : goal.returns-in-Err-clause-refused
returns-in-Err-clause-refused g c =
    let h = g.T.TryTurns.home c.args.turns.now in
    let purpose = purpose_of c.args.asking in
    let w = part_walk h purpose c.args.query.now c.args.part in
    let before = g.T.TryTurns.sees c.args.turns.now in
    let now = g.T.TryTurns.sees c.loop-visit.turns in
    let later = g.T.TryTurns.sees c.visit_from.new.turns in
    let at = option_map cursor_of c.loop-visit.cursor in
    let same = c.visit_from.ensures.same ∙ c.loop-visit.invariant.1 in
    let legal = subst (λ (home : Home). (v : Views) → now v → AreLegal home.options v) c.loop-visit.invariant.1 (λ v b part inside. g.met.T.TryTurns.legal c.loop-visit.turns v part c.loop-visit.invariant.0 b inside) in
    let legal_later = subst (λ (home : Home). (v : Views) → later v → AreLegal home.options v) same (λ v b part inside. g.met.T.TryTurns.legal c.visit_from.new.turns v part c.visit_from.ensures.ready b inside) in
    let visit = subst (λ (home : Home). Follows now later (Missed home c.args.part purpose c.args.query.now.code (scope_from at) c.in-Err.field-0 c.loop-visit.gained c.visit_from.new.gained)) c.loop-visit.invariant.1 c.in-Err.ensures.refused in
    gains_until h w (InPart c.args.part at) c.args.gained.now c.loop-visit.gained c.visit_from.new.gained c.in-Err.field-0 before now later (record { options = refl; number = refl }) (part_is_walk h purpose c.args.query.now c.args.part (g.met.T.TryTurns.fits c.args.turns.now c.requires.ready) c.requires.part) (not_over c.args.part at) legal legal_later c.loop-visit.invariant.3 visit

pub returns-clause-refused : goal.returns-clause-refused
returns-clause-refused g c =
    let h = g.T.TryTurns.home c.args.turns.now in
    let w = part_walk h (purpose_of c.args.asking) c.args.query.now c.args.part in
    let before = g.T.TryTurns.sees c.args.turns.now in
    let now = g.T.TryTurns.sees c.loop-visit.turns in
    let legal = subst (λ (home : Home). (v : Views) → now v → AreLegal home.options v) c.loop-visit.invariant.1 (λ v b part inside. g.met.T.TryTurns.legal c.loop-visit.turns v part c.loop-visit.invariant.0 b inside) in
    gains_so_far h w (start_of w) (InPart c.args.part (option_map cursor_of c.loop-visit.cursor)) c.args.gained.now c.loop-visit.gained before now legal c.loop-visit.invariant.3
