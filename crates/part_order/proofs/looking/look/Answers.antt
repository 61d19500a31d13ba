use Rattle.std.proofs.Common.{◌≡◌, ◌++◌, take, ap, sym, ◌∙◌}
use Rattle.std.proofs.lemmas.Result.{IfOk-weaker}
use Rattle.part_core.specs.Visits.{most_rows}
use Rattle.part_order.proofs.LookLemmas.{all_between, looked_first}
use Rattle.part_order.proofs.looking.look.Goals as goal

pub returns-in-Begin : goal.returns-in-Begin
returns-in-Begin g c =
    rw c.in-Begin.is (IfOk-weaker c.look_ahead.result (λ _. c.look_ahead.new.into.items ≡ c.args.into.now.items ++ take most_rows c.range.result) _ (λ _ is o base kind placed apart. is ∙ ap (λ rows. c.args.into.now.items ++ rows) (ap (take most_rows) (c.range.ensures.between tt ∙ all_between c.args.tree.now.entries) ∙ sym (looked_first o base c.args.tree.now.entries kind))) c.look_ahead.ensures)
