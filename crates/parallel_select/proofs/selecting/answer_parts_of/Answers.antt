use Rattle.std.proofs.Common.{ap, map, length, vec_items}
use Rattle.tables.specs.declared.options.Options.{Options}
use Rattle.parallel_select.proofs.MemberLemmas.{gathered_stay}
use Rattle.parallel_select.proofs.WorkersLemmas.{same_parts}
use Rattle.parallel_select.proofs.selecting.answer_parts_of.Goals as goal

pub answer_each-requires-clause-parts : goal.answer_each-requires-clause-parts
answer_each-requires-clause-parts g c κs within =
    same_parts g.T.TryTurns.home c.args.members.now c.index-members-0.result c.options-parts.result.parts c.requires.table c.requires.few.0 (ap (λ (o : Options). o.parts) c.options-parts.ensures)

pub returns-clause-ready : goal.returns-clause-ready
returns-clause-ready g c =
    (gathered_stay g.T.TryTurns.is_ready g.T.TryTurns.home g.T.TryTurns.sees c.args.query.now (length c.args.members.now) (λ given. map vec_items given.items) c.answer_each.result 0 c.args.members.now c.answer_each.new.members c.answer_each.ensures.done c.answer_each.ensures.refused).0

pub returns-clause-same : goal.returns-clause-same
returns-clause-same g c =
    (gathered_stay g.T.TryTurns.is_ready g.T.TryTurns.home g.T.TryTurns.sees c.args.query.now (length c.args.members.now) (λ given. map vec_items given.items) c.answer_each.result 0 c.args.members.now c.answer_each.new.members c.answer_each.ensures.done c.answer_each.ensures.refused).1
