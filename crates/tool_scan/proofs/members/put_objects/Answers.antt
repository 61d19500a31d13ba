use Rattle.std.proofs.Common.{◌∙◌}
use Rattle.tool_scan.proofs.MembersLemmas.{on_ok_put}
use Rattle.tool_scan.proofs.members.put_objects.Goals as goal

pub returns-clause-members : goal.returns-clause-members
returns-clause-members g c =
    (on_ok_put g.T.TryTurns.is_ready g.T.TryTurns.home g.T.TryTurns.sees c.args.options c.args.objects.now c.as_slice.result.now c.put_each.result c.args.members.now c.put_each.new.members (c.as_slice.ensures.value ∙ c.in_ok-numbers.ensures) c.requires.members c.put_each.ensures).0

pub returns-clause-put : goal.returns-clause-put
returns-clause-put g c =
    (on_ok_put g.T.TryTurns.is_ready g.T.TryTurns.home g.T.TryTurns.sees c.args.options c.args.objects.now c.as_slice.result.now c.put_each.result c.args.members.now c.put_each.new.members (c.as_slice.ensures.value ∙ c.in_ok-numbers.ensures) c.requires.members c.put_each.ensures).1
