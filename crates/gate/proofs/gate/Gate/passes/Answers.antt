use Rattle.std.proofs.Common.{◌≡◌, ◌+◌, [], ◌∷◌, ◌++◌, ap, sym, ◌∙◌}
use Rattle.part_core.specs.declared.settings.Settings.{Settings}
use Rattle.gate.specs.declared.view.View.{View}
use Rattle.gate.specs.Rule.{opener}
use Rattle.gate.specs.Views.{first_ticket}
use Rattle.gate.proofs.HistoryLemmas.{numbered_more}
use Rattle.gate.proofs.gate.Gate.passes.Goals as goal

pub loop-number-preserved : goal.loop-number-preserved
loop-number-preserved g c =
    let before = c.loop-number.invariant in
    let n = c.loop-number.number in
    let settings : c.loop-number.seat.me.0.settings ≡ c.args.seat.now.me.0.settings = ap (λ (v : View). v.settings) before.1 in
    let ticket : c.next_pass-pass.result ≡ first_ticket c.args.self.now c.args.seat.now.me.0.settings n = c.next_pass-pass.ensures.pass ∙ ap (λ (o : Settings). first_ticket c.args.self.now o n) settings in (
      c.next_pass-pass.ensures.gate ∙ before.0,
      c.next_pass-pass.ensures.opener.0 ∙ ap (λ (o : Settings). opener o (n + 1)) settings,
      c.next_pass-pass.ensures.opener.1,
      c.in-Ok.ensures.items ∙ (λ i. before.3 i ++ ticket i ∷ []) ∙ sym (numbered_more (first_ticket c.args.self.now c.args.seat.now.me.0.settings) n),
    )
