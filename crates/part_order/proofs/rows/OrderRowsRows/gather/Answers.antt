use Rattle.std.proofs.Common.{◌≡◌, ◌++◌, List, ap, sym, ◌∙◌}
use Rattle.std.specs.Prelude.{flat_map}
use Rattle.std.proofs.lemmas.Result.{IfOk-weaker}
use Rattle.part_core.specs.Rows.{Row}
use Rattle.part_order.proofs.ShownLemmas.{walk_shown}
use Rattle.part_order.proofs.rows.OrderRowsRows.gather.Goals as goal

pub returns : goal.returns
returns g c =
    IfOk-weaker c.gather.result (λ _. c.gather.new.into.items ≡ c.args.into.now.items ++ flat_map (λ (r : Row). r.1) c.self.inside.tree.entries) _
    (λ _ is w shows sound. is ∙ ap (λ (rows : List Row). c.args.into.now.items ++ flat_map (λ (r : Row). r.1) rows) (c.self.view_is ∙ sym (walk_shown c.args._settings c.args._base c.args.self.now w shows))) c.gather.ensures
