use Rattle.std.proofs.Common.{◌≡◌, ◌+◌, ◌<◌, drop, length, length-drop, drop-drop, ap, refl, arith, rules}
use Rattle.term_core.specs.Term.{tail_of}
use Rattle.term_core.proofs.SharedLemmas.{few_left, less_deep, list_deep, rest_of-rest, rest-IsTerm, rest_kept}
use Rattle.term_core.proofs.term.rest.shared_rest_of.Goals as goal

pub returns-then-elements-le-FEW : goal.returns-then-elements-le-FEW
returns-then-elements-le-FEW g c =
    let items = c.args.cells.now.value.elements.items in
    let held : c.behind-elements.result.now ≡ drop c.args.first items = search rules in
    few_left c.args.count (drop c.args.first items) c.args.cells.now.value.tail c.requires.list.0.2 (omega (arith, ap length held, c.if-elements-le-FEW.true))

pub returns-then-count-elements : goal.returns-then-count-elements
returns-then-count-elements g c =
    let items = c.args.cells.now.value.elements.items in
    let held : c.behind-elements.result.now ≡ drop c.args.first items = search rules in
    few_left c.args.count (drop c.args.first items) c.args.cells.now.value.tail c.requires.list.0.2 (omega (arith, ap length held, c.if-elements-le-FEW.false, c.if-count-elements.true))

pub is_as_deep-requires-clause-depth : goal.is_as_deep-requires-clause-depth
is_as_deep-requires-clause-depth g c =
    let left = drop c.args.first c.args.cells.now.value.elements.items in
    omega (arith, c.requires.list.0.0, list_deep left (tail_of c.args.cells.now.value.tail) c.requires.list.0.1)

pub returns-then-not-is_as_deep : goal.returns-then-not-is_as_deep
returns-then-not-is_as_deep g c =
    let items = c.args.cells.now.value.elements.items in
    let tail = c.args.cells.now.value.tail in
    let left = drop c.args.first items in
    let held : c.behind.result.now ≡ drop c.args.count left = search rules in
    let is : c.deref-2.result.now ≡ c.args.cells.now.value = search rules in
    let less = rw (held, is) at (c.if-not-is_as_deep.ensures.none refl) in
    less_deep c.args.count c.args.depth left tail c.requires.list.0.2 c.requires.list.0.0 less

pub invariant_of-result : goal.invariant_of-result
invariant_of-result g c =
    let items = c.args.cells.now.value.elements.items in
    let tail = c.args.cells.now.value.tail in
    let left = drop c.args.first items in
    let held : c.behind-elements.result.now ≡ left = search rules in
    let behind : c.behind.result.now ≡ drop c.args.count left = search rules in
    let is : c.deref-2.result.now ≡ c.args.cells.now.value = search rules in
    let same = drop-drop c.args.count c.args.first items in
    let some : 0 < length (drop (c.args.first + c.args.count) items) = omega (arith, ap length held, length-drop c.args.first items, length-drop (c.args.first + c.args.count) items, c.if-elements-le-FEW.false, c.if-count-elements.false) in
    let deep = rw (behind, is, same) at (c.if-not-is_as_deep.ensures.some refl) in
    rw c.in_ok-cells.ensures
    (rest-IsTerm c.args.first c.args.count items tail c.requires.list.0.2 c.requires.within, rest_kept c.args.depth (c.args.first + c.args.count) items tail c.requires.list.1 c.requires.list.2 c.requires.list.0.2 some deep)

pub returns : goal.returns
returns g c =
    let items = c.args.cells.now.value.elements.items in
    rw c.in_ok-cells.ensures
    (rest_of-rest c.args.first c.args.count items c.args.cells.now.value.tail c.requires.list.0.2)
