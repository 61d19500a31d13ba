use Rattle.std.proofs.Common.{arith}
use Rattle.tables.proofs.FixLemmas.{change_all}
use Rattle.tables.proofs.fixing.change_each.Goals as goal

pub change_from-end-requires-clause-within : goal.change_from-end-requires-clause-within
change_from-end-requires-clause-within g c = omega arith

pub change_from-end-requires-clause-granted : goal.change_from-end-requires-clause-granted
change_from-end-requires-clause-granted g c = λ v b part above inside. c.requires.granted v b part inside

pub returns-clause-done : goal.returns-clause-done
returns-clause-done g c =
    change_all (g.T.TryTurns.home c.args.turns.now) c.args.change (g.T.TryTurns.sees c.args.turns.now) (g.T.TryTurns.sees c.change_from-end.new.turns)
    (g.T.TryTurns.is_made c.change_from-end.new.turns) c.change_from-end.result (g.met.T.Turns.sure c.change_from-end.new.turns) c.change_from-end.ensures.turned c.change_from-end.ensures.put_off
