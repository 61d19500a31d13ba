use Rattle.std.proofs.Common.{rules, ℕ, ◌==◌, ap, ◌∙◌}
use mathlib.Core.Option.{none}
use prog.Atomic.{either}
use Rattle.atomic_table.specs.Table.{Me, step}
use Rattle.gate.specs.declared.view.View.{View}
use Rattle.gate.proofs.StepLemmas.{take_as, tried}
use Rattle.gate.proofs.gate.Gate.take_soon.Goals as goal

pub compare_exchange-requires : goal.compare_exchange-requires
compare_exchange-requires g c =
    let same = c.loop-look.invariant.1 in (
      search rules,
      search rules,
      take_as g.P.Part.settings g.P.Part.is_after _ _ _ c.loop-look.seat.me c.args._number (step 0 0 0 0 none) (λ (n : ℕ). either (n == 0) 1 n)
          (ap (λ (m : Me g.row.P.Denot View). m.0.role) same ∙ c.requires.1) (ap (λ (m : Me g.row.P.Denot View). m.1) same ∙ c.requires.2) tried,
    )
