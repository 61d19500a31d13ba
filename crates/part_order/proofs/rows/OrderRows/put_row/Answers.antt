use Rattle.std.proofs.Common.{rules, ◌≡◌, ap, ◌∙◌}
use Rattle.std.specs.Prelude.{true}
use Rattle.std.specs.Map.{lookup}
use Rattle.term_operand.specs.Order.{is_same}
use Rattle.part_rows.specs.Puts.{put_at}
use Rattle.part_order.proofs.rows.OrderRows.put_row.Goals as goal
use Rattle.part_order.proofs.rows.OrderRows.put_row.Goals.{in-Ok, in-Err}

pub returns-clause-put : goal.returns-clause-put
returns-clause-put g c =
    elim c.match-insert.branch [
      | in-Ok w ↦
          let found : w.in-Ok.replaced ≡ lookup (is_same c.args.key) c.args.self.now = w.in-Ok.ensures.old ∙ ap (lookup (is_same c.args.key)) c.self.view_is in
          rw w.result-is (w.put_over.ensures ∙ ap (put_at true) found)
      | in-Err w ↦ search (rules, w.result-is)
    ]
