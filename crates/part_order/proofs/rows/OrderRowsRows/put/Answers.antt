use Rattle.std.proofs.Common.{List, ap, sym, ◌∙◌}
use Rattle.std.specs.Prelude.{unwrap_or}
use Rattle.std.specs.Map.{lookup}
use Rattle.term_core.specs.Datum.Datum.{nil}
use Rattle.term_operand.specs.Order.{is_same}
use Rattle.part_core.specs.Settings.{key_of}
use Rattle.part_core.specs.Rows.{Row}
use Rattle.part_rows.specs.Puts.{is_put, put_at}
use Rattle.part_order.proofs.ShownLemmas.{put_shows}
use Rattle.part_order.proofs.rows.OrderRowsRows.put.Goals as goal

pub returns-clause-put : goal.returns-clause-put
returns-clause-put g c = λ w shows sound. (
  c.in_ok-put.ensures.put ∙ ap (λ (rs : List Row). put_at c.args.replaces (lookup (is_same (key_of c.args.settings (unwrap_or c.args.object.now nil))) rs)) (sym shows.rows),
  put_shows c.args.settings (unwrap_or c.args.object.now nil) c.args.self.now c.put_object.new.self w (is_put c.in_ok-put.put) shows (c.in_ok-put.ensures.rows shows.kind),
)
