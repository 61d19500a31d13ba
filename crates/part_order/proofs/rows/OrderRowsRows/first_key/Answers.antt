use Rattle.std.proofs.Common.{ap, sym, ◌∙◌}
use Rattle.part_core.specs.Replies.{first_live}
use Rattle.part_order.proofs.ShownLemmas.{walk_shown}
use Rattle.part_order.proofs.rows.OrderRowsRows.first_key.Goals as goal

pub returns : goal.returns
returns g c = λ w shows sound.
    c.first_key.ensures ∙ ap first_live (c.self.view_is ∙ sym (walk_shown c.args._settings c.args._base c.args.self.now w shows))
