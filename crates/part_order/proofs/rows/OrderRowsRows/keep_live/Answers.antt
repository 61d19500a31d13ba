use Rattle.std.proofs.Common.{ap, ◌∙◌}
use Rattle.std.specs.Prelude.{filter}
use Rattle.part_core.specs.Rows.{is_live}
use Rattle.part_order.proofs.ShownLemmas.{live_shows}
use Rattle.part_order.proofs.rows.OrderRowsRows.keep_live.Goals as goal

pub returns : goal.returns
returns g c = λ o w shows.
    live_shows o c.args.self.now c.keep_live.new.tree.entries w (c.keep_live.ensures ∙ ap (filter is_live) c.self.view_is) shows
