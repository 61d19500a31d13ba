use Rattle.std.proofs.Common.{◌≡◌, [], ◌∷◌, ap, sym, ◌∙◌}
use Rattle.std.specs.Prelude.{true, false, not, Option, List, unwrap_or}
use Rattle.std.specs.BTreeMap.{insert_entry}
use Rattle.std.specs.Map.{lookup}
use Rattle.term_core.specs.Datum.{Datum}
use Rattle.term_core.specs.Datum.Datum.{nil}
use Rattle.term_core.specs.Order.{datum_cmp}
use Rattle.term_operand.specs.Order.{is_same}
use Rattle.part_core.specs.Settings.{key_of}
use Rattle.part_rows.specs.Puts.{is_put, put_at}
use Rattle.part_order.proofs.TreeLemmas.{always_put, goes_over, put_in, stays_there}
use Rattle.part_order.proofs.rows.OrderRows.put_object.Goals as goal

pub returns-then-stays-clause-put : goal.returns-then-stays-clause-put
returns-then-stays-clause-put g c =
    let found : Datum → Option (List Datum) = λ k. lookup (is_same k) c.args.self.now in
    let key : Datum = key_of c.args.settings (unwrap_or c.args.object.now nil) in
    let stays : not (is_put (put_at c.args.replaces (found key))) ≡ true = sym (ap (λ k. not (is_put (put_at c.args.replaces (found k)))) c.in-Some.ensures.key) ∙ sym c.stays.ensures ∙ c.if-stays.true in
    stays_there c.args.replaces (found key) stays

pub returns-clause-put : goal.returns-clause-put
returns-clause-put g c =
    let found : Datum → Option (List Datum) = λ k. lookup (is_same k) c.args.self.now in
    let key : Datum = key_of c.args.settings (unwrap_or c.args.object.now nil) in
    let goes : not (is_put (put_at c.args.replaces (found key))) ≡ false = sym (ap (λ k. not (is_put (put_at c.args.replaces (found k)))) c.in-Some.ensures.key) ∙ sym c.stays.ensures ∙ c.if-stays.false in
    c.in_ok-put.ensures.put
    ∙ ap (λ k. put_at true (found k)) (c.in_ok-key.ensures ∙ c.in-Some.ensures.key)
    ∙ goes_over c.args.replaces (found key) goes

pub returns-clause-rows : goal.returns-clause-rows
returns-clause-rows g c = λ kind.
    let yes : is_put c.in_ok-put.put ≡ true = ap is_put c.in_ok-put.ensures.put ∙ always_put (lookup (is_same c.in_ok-key.key) c.args.self.now) in
    rw yes (c.in_ok-put.ensures.rows
    ∙ ap (λ k. insert_entry datum_cmp c.args.self.now k (unwrap_or c.args.object.now nil ∷ [])) (c.in_ok-key.ensures ∙ c.in-Some.ensures.key)
    ∙ put_in c.args.settings (unwrap_or c.args.object.now nil) c.args.self.now kind c.in_ok-put.ensures.ordered)
