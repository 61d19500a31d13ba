use Rattle.std.proofs.Common.{◌≡◌, ◌∙◌, sym, rules}
use Rattle.std.specs.Prelude.{FitsSigned}
use Rattle.std.specs.Str.{chars, IsUtf8}
use Rattle.std.specs.Int.{w64}
use Rattle.std.proofs.lemmas.Int.{to_z-of_z}
use Rattle.term_core.specs.View.{shown}
use Rattle.term_core.proofs.BytesOrder.{bytes_order}
use Rattle.term_operand.proofs.OrderLemmas.{datum_cmp-integer, datum_cmp-atom, datum_cmp-rank, AreOther, beside_integer, beside_atom, beside_any}
use Rattle.term_core.specs.Order.{datum_cmp}
use Rattle.term_operand.proofs.order.compare_views.Given.{Over}
use Rattle.term_operand.proofs.order.compare_views.Goals as goal
use Rattle.term_operand.proofs.order.compare_views.Goals.{in_default-via-in-Integer+in_default, in_default-via-in-Atom+in_default, in_default-via-in_default}

pub returns-in-Integer-Integer : goal.returns-in-Integer-Integer
returns-in-Integer-Integer g c =
    let left_fits : FitsSigned w64 c.in-Integer-Integer.left = search rules in
    let right_fits : FitsSigned w64 c.in-Integer-Integer.right = search rules in
    rw (c.in-Integer-Integer.is-0, c.in-Integer-Integer.is-1, datum_cmp-integer c.in-Integer-Integer.left c.in-Integer-Integer.right)
    (rw (to_z-of_z w64 c.in-Integer-Integer.left left_fits, to_z-of_z w64 c.in-Integer-Integer.right right_fits) at c.cmp.ensures)

pub returns-in-Atom-Atom : goal.returns-in-Atom-Atom
returns-in-Atom-Atom g c =
    let left : IsUtf8 c.in-Atom-Atom.left.now = search rules in
    let right : IsUtf8 c.in-Atom-Atom.right.now = search rules in
    rw (c.in-Atom-Atom.is-0, c.in-Atom-Atom.is-1, datum_cmp-atom (chars c.in-Atom-Atom.left.now) (chars c.in-Atom-Atom.right.now))
    (c.cmp-in-Atom-Atom.ensures ∙ bytes_order c.in-Atom-Atom.left.now c.in-Atom-Atom.right.now left right)

ranked : (g : Over) (c : goal.After-cmp-in_default g) → AreOther (shown c.args.left) (shown c.args.right) → c.cmp-in_default.result ≡ datum_cmp (shown c.args.left) (shown c.args.right)
ranked g c other =
    c.cmp-in_default.ensures
    ∙ rw (c.rank.ensures, c.rank-in_default.ensures) (sym (datum_cmp-rank (shown c.args.left) (shown c.args.right) c.requires.decided other))

pub returns-in_default : goal.returns-in_default
returns-in_default g c =
    ranked g c (elim c.in_default.branch [
      | in_default-via-in-Integer+in_default w ↦
          rw w.in_default.is-0 (beside_integer w.in_default.field-0-0 c.args.right c.requires.right w.in_default.not-Integer-1)
      | in_default-via-in-Atom+in_default w ↦
          rw w.in_default.is-0 (beside_atom w.in_default.field-0-0.now c.args.right c.requires.right w.in_default.not-Atom-1)
      | in_default-via-in_default w ↦ beside_any c.args.left c.args.right c.requires.left w.in_default.not-Integer-0 w.in_default.not-Atom-0
    ])
