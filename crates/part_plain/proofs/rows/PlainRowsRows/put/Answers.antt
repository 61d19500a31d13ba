use Rattle.std.proofs.Common.{List, ap, sym, subst, ◌∙◌}
use Rattle.std.specs.Prelude.{unwrap_or}
use Rattle.std.specs.List.{IsDistinct}
use Rattle.std.specs.Map.{keys_of, lookup}
use Rattle.term_core.specs.Datum.Datum.{nil}
use Rattle.term_operand.specs.Order.{is_same}
use Rattle.part_core.specs.Settings.{key_of}
use Rattle.part_core.specs.Rows.{Row}
use Rattle.part_rows.specs.Puts.{is_put, put_at}
use Rattle.part_plain.proofs.ShownLemmas.{shown_either, slots_of}
use Rattle.part_plain.proofs.rows.PlainRowsRows.put.Goals as goal

pub returns-clause-put : goal.returns-clause-put
returns-clause-put g c = λ w shown sound.
    let apart = subst (λ (rs : List Row). IsDistinct is_same (keys_of rs)) shown.rows sound.rows.distinct in (
      c.in_ok-put.ensures.put ∙ ap (λ (rs : List Row). put_at c.args.replaces (lookup (is_same (key_of c.args.settings (unwrap_or c.args.object.now nil))) rs)) (sym shown.rows),
      shown_either c.args.settings (unwrap_or c.args.object.now nil) c.args.self.now.rows.items c.put.new.rows.items c.args.self.now.slots c.slots_after-self.result w (is_put c.in_ok-put.put) shown (λ kind. c.in_ok-put.ensures.rows kind apart) (slots_of c.as_slice-before.result.now c.as_slice.result.now c.args.self.now.rows.items c.put.new.rows.items c.args.self.now.slots c.slots_after-self.result c.as_slice-before.ensures.value c.as_slice.ensures.value c.slots_after-self.ensures.slots),
    )
