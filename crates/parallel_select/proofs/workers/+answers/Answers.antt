use Rattle.std.proofs.Common.{rules}
use Rattle.std.specs.Prelude.{map, vec_items}
use denote.Param.Send.{sendable}
use Rattle.std.proofs.CrossingOver.{crosses}
use Rattle.parallel_list.proofs.Sent.{term_send}
use Rattle.parallel_select.proofs.QuerySent.{plan_sync}
use Rattle.parallel_select.proofs.WorkersLemmas.{one_long, ones_answer_at, ones_broken_at}
use Rattle.parallel_select.proofs.workers.+answers.Goals as goal

pub answer_both-join_mut-own-requires-send-F : goal.answer_both-join_mut-own-requires-send-F
answer_both-join_mut-own-requires-send-F g t c κs within = search (sendable, crosses, plan_sync) depth 40

pub answer_both-join_mut-own-requires-send-A : goal.answer_both-join_mut-own-requires-send-A
answer_both-join_mut-own-requires-send-A g t c κs within = search (sendable, crosses, term_send) depth 40

pub answer_both-both-requires-clause-own : goal.answer_both-both-requires-clause-own
answer_both-both-requires-clause-own g t c =
    one_long g.T.TryTurns.is_ready g.T.TryTurns.home g.T.TryTurns.sees c.args.plan.now.query.now c.args.plan.now.workers (λ lists. map vec_items lists.items) c.args.number c.args.plan.now.parts c.join_mut-own.result.0 c.args.one.now c.join_mut-own.new.f.2.now c.requires.one c.requires.single c.join_mut-own.ensures.0.met.1.done

pub answer_both-returns-clause-done : goal.answer_both-returns-clause-done
answer_both-returns-clause-done g t c =
    ones_answer_at g.T.TryTurns.is_ready g.T.TryTurns.home g.T.TryTurns.sees c.args.plan.now.query.now c.args.plan.now.workers (λ lists. map vec_items lists.items) c.args.number c.args.plan.now.parts c.join_mut-own.result.0 c.join_mut-own.result.1 c.both.result c.args.one.now c.join_mut-own.new.f.2.now c.args.rest.now c.join_mut-own.new.g.3.now c.one-1.given.0 c.rest-1.given.0 (search rules) (search rules) c.requires.one c.requires.single c.join_mut-own.ensures.0.met.1 c.join_mut-own.ensures.1.met.1 c.both.ensures.each c.both.ensures.joined

pub answer_both-returns-clause-refused : goal.answer_both-returns-clause-refused
answer_both-returns-clause-refused g t c =
    ones_broken_at g.T.TryTurns.is_ready g.T.TryTurns.home g.T.TryTurns.sees c.args.plan.now.query.now c.args.plan.now.workers (λ lists. map vec_items lists.items) c.args.number c.args.plan.now.parts c.join_mut-own.result.0 c.join_mut-own.result.1 c.both.result c.args.one.now c.join_mut-own.new.f.2.now c.args.rest.now c.join_mut-own.new.g.3.now c.one-1.given.0 c.rest-1.given.0 (search rules) (search rules) c.requires.one c.join_mut-own.ensures.0.met.1 c.join_mut-own.ensures.1.met.1
