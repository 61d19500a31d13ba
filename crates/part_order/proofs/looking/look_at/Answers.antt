use Rattle.std.proofs.Common.{◌≡◌, [], ◌∷◌, ◌++◌, ap, sym, ◌∙◌, rules}
use Rattle.std.specs.Prelude.{filter}
use Rattle.std.proofs.lemmas.List.{append-nil}
use Rattle.term_operand.specs.Order.{is_same}
use Rattle.part_core.specs.Rows.{Row}
use Rattle.part_core.proofs.KeyedLemmas.{no_row, none_there}
use Rattle.part_order.proofs.LookLemmas.{row_at}
use Rattle.part_order.proofs.looking.look_at.Goals as goal

pub returns-in_ok-push : goal.returns-in_ok-push
returns-in_ok-push g c = λ apart.
    rw (row_at c.args.key.now c.in-Some.key.now c.in-Some.held.now c.args.tree.now.entries apart c.in-Some.ensures.key c.in-Some.ensures.value)
    (c.in_ok-push.ensures.items ∙ ap (λ (r : Row). c.args.into.now.items ++ r ∷ []) c.new.ensures)

pub returns-in_default : goal.returns-in_default
returns-in_default g c = λ apart.
    let none : filter (λ (r : Row). is_same c.args.key.now r.0) c.args.tree.now.entries ≡ [] = none_there c.args.key.now c.args.tree.now.entries (no_row c.args.key.now c.args.tree.now.entries (search rules)) in
    rw none (sym (append-nil c.args.into.now.items))
