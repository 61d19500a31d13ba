use Rattle.std.proofs.Common.{◌∙◌}
use Rattle.part_order.proofs.LookLemmas.{behind_between}
use Rattle.part_order.proofs.looking.following_rows.Goals as goal

pub returns : goal.returns
returns g c = c.range.ensures.between tt ∙ behind_between c.args.key.now c.args.tree.now.entries
