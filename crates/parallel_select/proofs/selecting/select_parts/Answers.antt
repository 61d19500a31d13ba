use Rattle.std.proofs.Common.{◌∙◌, map, vec_items, length, rules}
use Rattle.parallel_select.specs.Workers.{AreFew}
use Rattle.parallel_select.proofs.WorkersLemmas.{flat_lists, rest_broken}
use Rattle.parallel_select.proofs.selecting.select_parts.Goals as goal

pub returns-in-Ok-join_lists-clause-done : goal.returns-in-Ok-join_lists-clause-done
returns-in-Ok-join_lists-clause-done g c =
    let few : AreFew (length c.args.members.now) = search rules in
    (few, map vec_items c.in-Ok.lists.items, c.in-Ok-join_lists.ensures ∙ flat_lists vec_items c.in-Ok.lists.items, c.in-Ok.ensures.done)

pub returns-in-Err-join_lists-clause-refused : goal.returns-in-Err-join_lists-clause-refused
returns-in-Err-join_lists-clause-refused g c other =
    rest_broken g.T.TryTurns.is_ready g.T.TryTurns.home g.T.TryTurns.sees c.args.query.now (length c.args.members.now) 0 (map vec_items c.in-Ok.lists.items) c.args.members.now c.answer_parts_of.new.members c.in-Ok.ensures.done
