use Rattle.std.proofs.Common.{rules}
use Rattle.gate.proofs.StepLemmas.{pass_splits_as}
use Rattle.gate.proofs.gate.Gate.next_pass.Goals as goal

pub split_seat-requires : goal.split_seat-requires
split_seat-requires g c = (
  search rules,
  search rules,
  pass_splits_as g.P.Part.settings g.P.Part.is_after _ _ c.args.number c.args.seat.now.me.0 c.requires.opener.0,
)
