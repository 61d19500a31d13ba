use Rattle.std.proofs.Common.{length}
use Rattle.parallel_select.specs.Gained.{purpose_of}
use Rattle.parallel_select.proofs.MemberLemmas.{tallied_stay}
use Rattle.parallel_select.proofs.selecting.tally_parts.Goals as goal

pub returns-then-tally-clause-ready : goal.returns-then-tally-clause-ready
returns-then-tally-clause-ready g c =
    (tallied_stay g.T.TryTurns.is_ready g.T.TryTurns.home g.T.TryTurns.sees c.args.query.now (length c.args.members.now) (purpose_of c.args.asking) c.tally_each-tally.result.refused c.tally_each-tally.result.count 0 c.args.members.now c.tally_each-tally.new.members c.tally_each-tally.ensures).0

pub returns-then-tally-clause-same : goal.returns-then-tally-clause-same
returns-then-tally-clause-same g c =
    (tallied_stay g.T.TryTurns.is_ready g.T.TryTurns.home g.T.TryTurns.sees c.args.query.now (length c.args.members.now) (purpose_of c.args.asking) c.tally_each-tally.result.refused c.tally_each-tally.result.count 0 c.args.members.now c.tally_each-tally.new.members c.tally_each-tally.ensures).1

pub returns-clause-ready : goal.returns-clause-ready
returns-clause-ready g c =
    (tallied_stay g.T.TryTurns.is_ready g.T.TryTurns.home g.T.TryTurns.sees c.args.query.now (length c.args.members.now) (purpose_of c.args.asking) c.tally_each-tally.result.refused c.tally_each-tally.result.count 0 c.args.members.now c.tally_each-tally.new.members c.tally_each-tally.ensures).0

pub returns-clause-same : goal.returns-clause-same
returns-clause-same g c =
    (tallied_stay g.T.TryTurns.is_ready g.T.TryTurns.home g.T.TryTurns.sees c.args.query.now (length c.args.members.now) (purpose_of c.args.asking) c.tally_each-tally.result.refused c.tally_each-tally.result.count 0 c.args.members.now c.tally_each-tally.new.members c.tally_each-tally.ensures).1
