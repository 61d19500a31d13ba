use Rattle.std.proofs.Common.{refl}
use Rattle.walks.specs.declared.continuation.Continuation.{Continuation}
use Rattle.walk_core.specs.Positions.{position_of}
use Rattle.walks.specs.Query.{kept_of}
use Rattle.walks.proofs.PieceLemmas.{steps_of}
use Rattle.walks.proofs.pieces.go_on.Goals as goal

pub returns-in-Ok-clause-done : goal.returns-in-Ok-clause-done
returns-in-Ok-clause-done g c =
    let walk = c.args.walk in
    let left : Continuation _ = record { query = walk.query; table = walk.table; session = walk.session; limit = walk.limit; at = c.next_piece-piece.new.at; kept = c.next_piece-piece.new.kept; some = c.step_of-arg-1.given.0 } in
    steps_of (g.T.TryTurns.home c.args.turns.now) walk.query walk.limit (position_of walk.at) (kept_of walk.kept) left c.in-Ok.piece.items c.step_of.result
    (g.T.TryTurns.sees c.args.turns.now) (g.T.TryTurns.sees c.next_piece-piece.new.turns) walk.some (refl, refl, c.requires.own) c.in-Ok.ensures.piece c.step_of.ensures c.in-Ok.ensures.done
