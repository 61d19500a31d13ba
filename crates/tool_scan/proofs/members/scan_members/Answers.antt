use Rattle.std.proofs.Common.{arith}
use Rattle.tool_scan.proofs.MembersLemmas.{members_scanned}
use Rattle.tool_scan.proofs.members.scan_members.Goals as goal

pub returns-in-Ok : goal.returns-in-Ok
returns-in-Ok g c =
    let done = c.in-Ok.ensures.done in
    let scanned = members_scanned g.T.TryTurns.is_ready g.T.TryTurns.home g.T.TryTurns.sees c.args.options c.args.query.now done.1 c.args.objects.now c.args.members.now c.put_objects.new.members c.select_parts.new.members
    c.in_ok-put_objects.ensures.members (omega (arith, c.requires.allowed.sessions.0)) c.in_ok-put_objects.ensures.put done.3 in
    (done.1, scanned.0, done.2, scanned.1)
