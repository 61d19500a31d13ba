use Rattle.std.proofs.Common.{rules, ℕ, ◌≡◌, ap, ◌∙◌}
use mathlib.Core.Option.{none}
use Rattle.atomic_table.specs.Table.{Me, step}
use Rattle.gate.specs.declared.view.View.{View}
use Rattle.gate.proofs.StepLemmas.{take_as, waited}
use Rattle.gate.proofs.gate.Gate.take.Goals as goal

pub swap-requires : goal.swap-requires
swap-requires g c =
    let missed : c.take_soon.new.seat.me ≡ c.args.seat.now.me = search rules in
    let same : c.loop-wait.seat.me ≡ c.args.seat.now.me = c.loop-wait.invariant.1 ∙ missed in (
      search rules,
      search rules,
      take_as g.P.Part.settings g.P.Part.is_after _ _ _ c.loop-wait.seat.me c.args.number (step 0 0 0 0 none) (λ (n : ℕ). 2)
          (ap (λ (m : Me g.row.P.Denot View). m.0.role) same ∙ c.requires.1) (ap (λ (m : Me g.row.P.Denot View). m.1) same ∙ c.requires.2) waited,
    )
