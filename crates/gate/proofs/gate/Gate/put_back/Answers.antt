use Rattle.std.proofs.Common.{rules, ap, ◌∙◌}
use mathlib.Core.Option.{none}
use Rattle.atomic_table.specs.Table.{step}
use Rattle.part_core.specs.Ops.{act_of, answer_in}
use Rattle.gate.specs.Views.{own}
use Rattle.gate.proofs.HistoryLemmas.{own_elsewhere}
use Rattle.gate.proofs.StepLemmas.{put_as}
use Rattle.gate.proofs.gate.Gate.put_back.Goals as goal

pub swap-requires : goal.swap-requires
swap-requires g c = (
  search rules,
  search rules,
  put_as g.P.Part.settings g.P.Part.is_after _ _ _ c.args.seat.now.me c.args._number g.E.Adds.more (step 0 0 0 0 none) c.requires.role
      (λ k apart. ap (own k) c.requires.more ∙ own_elsewhere c.args._number k (act_of c.args._asked.now.value) (answer_in c.args._answer.now) apart) c.requires.held,
)
