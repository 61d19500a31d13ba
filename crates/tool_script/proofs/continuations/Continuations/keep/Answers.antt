use Rattle.std.proofs.Common.{◌≡◌, ◌+◌, refl, rules}
use Rattle.tool_script.proofs.ContinuationLemmas.{more_by}
use Rattle.tool_script.proofs.continuations.Continuations.keep.Goals as goal

pub returns-in-Piece : goal.returns-in-Piece
returns-in-Piece g c =
    let next : c.in-Some.later ≡ c.args.self.now.next + 1 = search rules in
    rw c.in-Piece.is (refl, more_by c.args.self.now (record { «open» = c.insert.new.self; next = c.in-Some.later }) c.in-Piece.walk c.in-Ok.ensures.updates next)
