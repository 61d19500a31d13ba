use Rattle.std.proofs.Common.{◌∙◌, ap, option_map}
use Rattle.std.proofs.lemmas.Result.{err_from_is_err_and}
use Rattle.part_core.specs.Acts.Answer.{Refused}
use Rattle.part_core.specs.Replies.{most_counted}
use Rattle.part_core.specs.Ops.{cursor_of, refusal_of, scope_of}
use Rattle.tables.specs.Turns.{Home}
use Rattle.walk_core.specs.Walk.{next_position}
use Rattle.walk_core.specs.Counting.{purpose_of}
use Rattle.walk_core.specs.Positions.{position_of}
use Rattle.walks.specs.Query.{walk_of}
use Rattle.walks.proofs.VisitLemmas.{turned_there, visit_more}
use Rattle.walks.proofs.counting.count_next.Goals as goal

pub returns-clause-done : goal.returns-clause-done
returns-clause-done g c =
    let h = g.T.TryTurns.home c.args.turns.now in
    let q = c.args.query.now in
    let purpose = purpose_of c.args.counting in
    let at = position_of c.args.at.now in
    let next = option_map cursor_of c.in_ok-count.next in
    visit_more h q c.args.counting c.next_visit-part.result.0 c.in_ok-count.count (scope_of c.next_visit-part.result.1) next at (position_of c.move_on.new.at)
    (g.T.TryTurns.sees c.args.turns.now) (g.T.TryTurns.sees c.count_at.new.turns)
    (c.next_visit-part.ensures.part purpose)
    (c.next_visit-part.ensures.scope purpose)
    (c.move_on.ensures.at purpose ∙ ap (λ (home : Home). next_position (walk_of home purpose q) at next) c.count_at.ensures.same)
    c.in_ok-count.ensures.done

pub returns-in_err-count-clause-refused : goal.returns-in_err-count-clause-refused
returns-in_err-count-clause-refused g c =
    let h = g.T.TryTurns.home c.args.turns.now in
    let q = c.args.query.now in
    let purpose = purpose_of c.args.counting in
    let back = err_from_is_err_and c.from_residual.result c.from_residual.ensures.1 in
    rw (back.1, back.2) (turned_there h (walk_of h purpose q) (position_of c.args.at.now) c.next_visit-part.result.0 purpose q.code (scope_of c.next_visit-part.result.1) most_counted (option_map Refused (refusal_of c.in_err-count.field-0.0))
    (g.T.TryTurns.sees c.args.turns.now) (g.T.TryTurns.sees c.count_at.new.turns) (c.next_visit-part.ensures.part purpose) (c.next_visit-part.ensures.scope purpose) c.in_err-count.ensures.refused)
