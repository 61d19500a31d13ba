use Rattle.std.proofs.Common.{◌≡◌, length, rules, sym, ap, ◌∙◌}
use Rattle.std.specs.Prelude.{true, false, unwrap_or}
use Rattle.term_core.specs.Datum.Datum.{nil}
use Rattle.part_core.specs.Settings.{key_of}
use Rattle.part_rows.specs.Puts.{is_put}
use Rattle.part_plain.proofs.PutLemmas.{became, put_back, put_there, kept_rows}
use Rattle.part_plain.proofs.putting.put.Goals as goal

pub returns-then-not-is_done-clause-put : goal.returns-then-not-is_done-clause-put
returns-then-not-is_done-clause-put g c =
    became (key_of c.args.settings (unwrap_or c.args.object.now nil)) c.args.rows.now.items c.place_of_object.new.rows.items c.deref.result.now c.in_ok-place.place (length c.as_slice-before.result.now) c.args.replaces c.put_over-became.result c.put_over-became.ensures c.deref.ensures.value c.in_ok-place.ensures.rows c.in_ok-place.ensures.place (ap length c.as_slice-before.ensures.value)

pub returns-then-not-is_done-clause-rows : goal.returns-then-not-is_done-clause-rows
returns-then-not-is_done-clause-rows g c = λ plain apart.
    let no : is_put c.put_over-became.result ≡ false = sym c.is_done.ensures ∙ c.if-not-is_done.true in
    let said = became (key_of c.args.settings (unwrap_or c.args.object.now nil)) c.args.rows.now.items c.place_of_object.new.rows.items c.deref.result.now c.in_ok-place.place (length c.as_slice-before.result.now) c.args.replaces c.put_over-became.result c.put_over-became.ensures c.deref.ensures.value c.in_ok-place.ensures.rows c.in_ok-place.ensures.place (ap length c.as_slice-before.ensures.value) in
    rw no (kept_rows (key_of c.args.settings (unwrap_or c.args.object.now nil)) c.args.rows.now.items c.place_of_object.new.rows.items c.args.replaces c.in_ok-place.ensures.rows (ap is_put (sym said) ∙ no))

pub returns-clause-put : goal.returns-clause-put
returns-clause-put g c =
    became (key_of c.args.settings (unwrap_or c.args.object.now nil)) c.args.rows.now.items c.place_of_object.new.rows.items c.deref.result.now c.in_ok-place.place (length c.as_slice-before.result.now) c.args.replaces c.put_over-became.result c.put_over-became.ensures c.deref.ensures.value c.in_ok-place.ensures.rows c.in_ok-place.ensures.place (ap length c.as_slice-before.ensures.value)

pub returns-clause-rows : goal.returns-clause-rows
returns-clause-rows g c = λ plain apart.
    let yes : is_put c.put_over-became.result ≡ true = sym c.is_done.ensures ∙ c.if-not-is_done.false in
    rw yes (put_there c.args.settings (unwrap_or c.args.object.now nil) c.args.rows.now.items c.place_of_object.new.rows.items c.in_ok-place.place c.index_mut.result.now c.put.new.self c.in_ok-place.ensures.rows c.in_ok-place.ensures.place c.index_mut.ensures.value c.in_ok-put.ensures.done plain apart)

pub returns-in_err-put-clause-refused : goal.returns-in_err-put-clause-refused
returns-in_err-put-clause-refused g c =
    let back = put_back (key_of c.args.settings (unwrap_or c.args.object.now nil)) c.args.rows.now.items c.place_of_object.new.rows.items c.in_ok-place.place c.index_mut.result.now c.put.new.self c.in_ok-place.ensures.rows c.in_ok-place.ensures.place c.index_mut.ensures.value c.in_err-put.ensures.refused c.in_err-put.ensures.live in
    search (rules, back)
