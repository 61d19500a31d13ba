use Rattle.std.proofs.Common.{ap, sym, ◌∙◌}
use Rattle.part_core.proofs.KeyedLemmas.{no_row}
use Rattle.part_order.proofs.TreeLemmas.{set_nowhere}
use Rattle.part_order.proofs.tree.swap_held.Goals as goal

pub returns-in-None-clause-rows : goal.returns-in-None-clause-rows
returns-in-None-clause-rows g c =
    ap (λ m. m.entries) c.get_mut.follows.holds-at-none
    ∙ sym (set_nowhere c.args.key.now c.args.held.now c.args.tree.now.entries (no_row c.args.key.now c.args.tree.now.entries c.in-None.ensures.value))
