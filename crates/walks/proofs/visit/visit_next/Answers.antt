use Rattle.std.proofs.Common.{◌∙◌, ap, option_map}
use Rattle.std.proofs.lemmas.Result.{err_from_is_err_and}
use Rattle.part_core.specs.Acts.Answer.{Refused}
use Rattle.part_core.specs.Acts.Purpose.{Answers}
use Rattle.part_core.specs.Ops.{cursor_of, refusal_of, scope_of}
use Rattle.tables.specs.Turns.{Home}
use Rattle.walk_core.specs.Walk.{next_position}
use Rattle.walk_core.specs.Positions.{position_of}
use Rattle.walks.specs.Query.{kept_of, walk_of}
use Rattle.walks.proofs.VisitLemmas.{turned_there, visit_kept}
use Rattle.walks.proofs.visit.visit_next.Goals as goal

pub returns-clause-done : goal.returns-clause-done
returns-clause-done g c =
    let h = g.T.TryTurns.home c.args.turns.now in
    let q = c.args.query.now in
    let at = position_of c.args.at.now in
    let next = option_map cursor_of c.in_ok-answers.next in
    λ by_count is. visit_kept h q by_count c.next_visit-part.result.0 c.args.wanted (scope_of c.next_visit-part.result.1) next (kept_of c.args.kept.now) c.in_ok-answers.answers.items (kept_of c.hold.new.self) at (position_of c.move_on.new.at)
    (g.T.TryTurns.sees c.args.turns.now) (g.T.TryTurns.sees c.visit_at.new.turns)
    (c.next_visit-part.ensures.part Answers)
    (c.next_visit-part.ensures.scope Answers)
    (c.move_on.ensures.at Answers ∙ ap (λ (home : Home). next_position (walk_of home Answers q) at next) c.visit_at.ensures.same)
    c.hold.ensures
    is
    c.in_ok-answers.ensures.done

pub returns-in_err-answers-clause-refused : goal.returns-in_err-answers-clause-refused
returns-in_err-answers-clause-refused g c =
    let h = g.T.TryTurns.home c.args.turns.now in
    let q = c.args.query.now in
    let back = err_from_is_err_and c.from_residual.result c.from_residual.ensures.1 in
    rw (back.1, back.2) (turned_there h (walk_of h Answers q) (position_of c.args.at.now) c.next_visit-part.result.0 Answers q.code (scope_of c.next_visit-part.result.1) c.args.wanted (option_map Refused (refusal_of c.in_err-answers.field-0.0))
    (g.T.TryTurns.sees c.args.turns.now) (g.T.TryTurns.sees c.visit_at.new.turns) (c.next_visit-part.ensures.part Answers) (c.next_visit-part.ensures.scope Answers) c.in_err-answers.ensures.refused)
