use Rattle.std.proofs.Common.{◌≡◌, Some, sym, ◌∙◌}
use Rattle.term_core.specs.Datum.{cells}
use Rattle.term_core.specs.Datum.Datum.{nil}
use Rattle.mspec_syntax.specs.Expression.{assignments_of, assignment_keys}
use Rattle.compiler_expressions.proofs.KeyLemmas.{keys-all, keys-made}
use Rattle.compiler_expressions.proofs.put.key_list.Goals as goal

pub unreachable-requires : goal.unreachable-requires
unreachable-requires g c =
    let ms = c.args.assignments.now in
    let all = keys-all ms c.loop-key.key-index c.loop-key.keys.items c.loop-key-test.false c.loop-key.invariant in
    let made = keys-made c.loop-key.keys.items (assignment_keys (assignments_of ms)) c.nil.result nil c.in_ok-list.field-0 all c.nil.ensures c.requires c.in_ok-list.ensures in
    cc

pub returns : goal.returns
returns g c =
    let ms = c.args.assignments.now in
    let all = keys-all ms c.loop-key.key-index c.loop-key.keys.items c.loop-key-test.false c.loop-key.invariant in
    let made = keys-made c.loop-key.keys.items (assignment_keys (assignments_of ms)) c.nil.result nil c.in_ok-list.field-0 all c.nil.ensures c.requires c.in_ok-list.ensures in
    let some : Some c.in-Some.list ≡ Some (cells (assignment_keys (assignments_of ms)) nil) = sym c.in-Some.is ∙ made in
    cc
