use Rattle.std.proofs.Common.{◌<◌, [], SFits, length, drop, arith, sym, ap, ◌∙◌}
use Rattle.std.specs.Int.{w64}
use Rattle.std.specs.Ordering.{ordering_then}
use Rattle.std.proofs.lemmas.List.{at_drop_all, length-drop}
use Rattle.std.proofs.lemmas.Int.{to_z-of_z}
use Rattle.std.specs.Option.{option_copied}
use Rattle.term_core.specs.Order.{rank, datum_cmp}
use Rattle.term_core.specs.Limits.{depth}
use Rattle.term_core.specs.Term.{tail_of}
use Rattle.term_core.specs.TermFalls.{depth-cells}
use Rattle.term_core.specs.OrderLaws.{datum_cmp-kinds}
use Rattle.term_core.proofs.ViewLemmas.{not_integer, not_atom, not_tuple, not_map, not_list, not_binary, shared_rank, rank-cells}
use Rattle.term_core.proofs.RowLemmas as rows
use Rattle.term_core.proofs.RowLemmas.{decided, level, rows_of_items, items_step, rows_of_keys, keys_step, rows_of_values, values_step, rows_of_cells, cells_step, depth-element, depth-entry}
use Rattle.term_core.proofs.order.+compare.Goals as goal

pub compare-returns-in_default : goal.compare-returns-in_default
compare-returns-in_default g t c =
    let answer = rw (c.rank.ensures, c.rank-2.ensures) at c.cmp.ensures in
    answer ∙ datum_cmp-kinds c.args.a.now c.args.b.now (λ e. c.in_default.not-Equal (answer ∙ e))

pub compare_alike-compare_lists-requires : goal.compare_alike-compare_lists-requires
compare_alike-compare_lists-requires g t c κs within =
    let deep = depth-cells c.in-List-List.a.now (tail_of (option_copied c.in-List-List.a_tail)) c.in-List-List.ensures.split.0 in
    let whole = c.in-List-List.ensures.value in
    let level = ap depth whole in (omega arith, (within, (c.in-List-List.ensures.split.1, c.in-List-List.ensures'.split.1)))

pub compare_alike-returns-in-Integer-Integer : goal.compare_alike-returns-in-Integer-Integer
unfolding datum_cmp
compare_alike-returns-in-Integer-Integer g t c =
    let fits_a : SFits w64 c.in-Integer-Integer.a = (rw (← c.in-Integer-Integer.ensures.value) at c.in-Integer-Integer.ensures.within).sound in
    let fits_b : SFits w64 c.in-Integer-Integer.b = (rw (← c.in-Integer-Integer.ensures'.value) at c.in-Integer-Integer.ensures'.within).sound in
    rw (← c.in-Integer-Integer.ensures.value, ← c.in-Integer-Integer.ensures'.value) (simp to_z-of_z at c.compare_integers.ensures)

pub compare_alike-returns-in-Atom-Atom : goal.compare_alike-returns-in-Atom-Atom
unfolding datum_cmp
compare_alike-returns-in-Atom-Atom g t c =
    rw (← c.in-Atom-Atom.ensures.value, ← c.in-Atom-Atom.ensures'.value) c.compare_texts.ensures

pub compare_alike-returns-in-Binary-Binary : goal.compare_alike-returns-in-Binary-Binary
unfolding datum_cmp
compare_alike-returns-in-Binary-Binary g t c =
    rw (← c.in-Binary-Binary.ensures.value, ← c.in-Binary-Binary.ensures'.value) c.cmp.ensures

pub compare_alike-returns-in_default : goal.compare_alike-returns-in_default
compare_alike-returns-in_default g t c =
    absurd (not_integer c.view-2.result c.in_default.not-Integer-1 (shared_rank c.view-2.result c.args.a.now c.args.b.now _ c.view-2.ensures.value c.view-2.ensures.split c.in_default.ensures.value c.requires))

pub compare_alike-returns-in_default-2 : goal.compare_alike-returns-in_default-2
compare_alike-returns-in_default-2 g t c =
    absurd (not_atom c.view-2.result c.in_default.not-Atom-1 (shared_rank c.view-2.result c.args.a.now c.args.b.now _ c.view-2.ensures.value c.view-2.ensures.split c.in_default.ensures.value c.requires))

pub compare_alike-returns-in_default-3 : goal.compare_alike-returns-in_default-3
compare_alike-returns-in_default-3 g t c =
    absurd (not_tuple c.view-2.result c.in_default.not-Tuple-1 (shared_rank c.view-2.result c.args.a.now c.args.b.now _ c.view-2.ensures.value c.view-2.ensures.split c.in_default.ensures.value c.requires))

pub compare_alike-returns-in_default-4 : goal.compare_alike-returns-in_default-4
compare_alike-returns-in_default-4 g t c =
    absurd (not_map c.view-2.result c.in_default.not-Map-1 (shared_rank c.view-2.result c.args.a.now c.args.b.now _ c.view-2.ensures.value c.view-2.ensures.split c.in_default.ensures.value c.requires))

pub compare_alike-returns-in_default-5 : goal.compare_alike-returns-in_default-5
compare_alike-returns-in_default-5 g t c =
    let list = rank-cells c.in_default.field-0-0.now (tail_of (option_copied c.in_default.field-1-0)) c.in_default.ensures.split.0 in
    absurd (not_list c.view-2.result c.in_default.not-List-1 (shared_rank c.view-2.result c.args.a.now c.args.b.now _ c.view-2.ensures.value c.view-2.ensures.split c.in_default.ensures.value c.requires ∙ list))

pub compare_alike-returns-in_default-6 : goal.compare_alike-returns-in_default-6
compare_alike-returns-in_default-6 g t c =
    absurd (not_binary c.view-2.result c.in_default.not-Binary-1 (shared_rank c.view-2.result c.args.a.now c.args.b.now _ c.view-2.ensures.value c.view-2.ensures.split c.in_default.ensures.value c.requires))

pub compare_alike-returns-in_default-7 : goal.compare_alike-returns-in_default-7
compare_alike-returns-in_default-7 g t c =
    let is = c.in_default.ensures.value in
    rows.nil-rank c.args.b.now (ap rank is ∙ c.requires) ∙ ap (λ d. datum_cmp d c.args.b.now) is

pub compare_tuples-returns-in-Equal : goal.compare_tuples-returns-in-Equal
compare_tuples-returns-in-Equal g t c = c.compare_items.ensures ∙ sym (rows.tuples-level c.args.a.now c.args.b.now (rows.nat_cmp-equal _ _ (sym c.in-Equal.ensures)))

pub compare_tuples-returns-in_default : goal.compare_tuples-returns-in_default
compare_tuples-returns-in_default g t c = rows.tuples-sizes c.args.a.now c.args.b.now c.cmp.result c.cmp.ensures c.in_default.not-Equal

pub compare_maps-returns-in_default : goal.compare_maps-returns-in_default
compare_maps-returns-in_default g t c = rows.maps-sizes c.args.a.now c.args.b.now c.cmp.result c.cmp.ensures c.in_default.not-Equal

pub compare_entries-returns-in-Equal : goal.compare_entries-returns-in-Equal
compare_entries-returns-in-Equal g t c =
    c.compare_values.ensures
    ∙ ap (λ o. ordering_then o (rows_of_values c.args.a.now c.args.b.now)) c.in-Equal.ensures
    ∙ sym (rows.maps-level c.args.a.now c.args.b.now c.requires)

pub compare_entries-returns-in_default : goal.compare_entries-returns-in_default
compare_entries-returns-in_default g t c =
    sym (rows.then_first c.compare_keys.result (rows_of_values c.args.a.now c.args.b.now) c.in_default.not-Equal)
    ∙ ap (λ o. ordering_then o (rows_of_values c.args.a.now c.args.b.now)) c.compare_keys.ensures
    ∙ sym (rows.maps-level c.args.a.now c.args.b.now c.requires)

pub compare_items-compare-requires : goal.compare_items-compare-requires
compare_items-compare-requires g t c κs within =
    let there : c.loop-i.i < length c.args.a.now = omega arith in
    let deep = depth-element c.args.a.now c.loop-i.i c.index-a-i.result there c.index-a-i.is in (omega arith, within)

pub compare_items-returns-in_default : goal.compare_items-returns-in_default
compare_items-returns-in_default g t c =
    let in_a : c.loop-i.i < length c.args.a.now = omega arith in
    let in_b : c.loop-i.i < length c.args.b.now = omega arith in
    decided rows_of_items datum_cmp items_step c.args.a.now c.args.b.now c.loop-i.i c.index-a-i.result c.index-b-i.result c.compare.result _ in_a in_b c.index-a-i.is c.index-b-i.is c.compare.ensures c.in_default.not-Equal c.loop-i.invariant

pub compare_items-loop-i-preserved : goal.compare_items-loop-i-preserved
compare_items-loop-i-preserved g t c =
    let in_a : c.loop-i.i < length c.args.a.now = omega arith in
    let in_b : c.loop-i.i < length c.args.b.now = omega arith in
    level rows_of_items datum_cmp items_step c.args.a.now c.args.b.now c.loop-i.i c.index-a-i.result c.index-b-i.result _ in_a in_b c.index-a-i.is c.index-b-i.is c.in-Equal.ensures c.loop-i.invariant

pub compare_items-returns : goal.compare_items-returns
compare_items-returns g t c =
    sym rows.items-none
    ∙ sym (at_drop_all (λ xs. rows_of_items xs []) c.args.a.now c.loop-i.i (omega arith))
    ∙ sym (at_drop_all (λ ys. rows_of_items (drop c.loop-i.i c.args.a.now) ys) c.args.b.now c.loop-i.i (omega arith))
    ∙ c.loop-i.invariant

pub compare_keys-compare-requires : goal.compare_keys-compare-requires
compare_keys-compare-requires g t c κs within =
    let there : c.loop-i.i < length c.args.a.now = omega arith in
    let deep = depth-entry c.args.a.now c.loop-i.i c.index-a-i.result there c.index-a-i.is in let same = ap (λ p. depth p.0) c.index-a-i.is in (omega arith, within)

pub compare_keys-returns-in_default : goal.compare_keys-returns-in_default
compare_keys-returns-in_default g t c =
    let answer = rw (← c.index-a-i.is, ← c.index-b-i.is) at c.compare.ensures in
    let in_a : c.loop-i.i < length c.args.a.now = omega arith in
    let in_b : c.loop-i.i < length c.args.b.now = omega arith in
    decided rows_of_keys (λ x y. datum_cmp x.0 y.0) keys_step c.args.a.now c.args.b.now c.loop-i.i c.index-a-i.result c.index-b-i.result c.compare.result _ in_a in_b c.index-a-i.is c.index-b-i.is answer c.in_default.not-Equal c.loop-i.invariant

pub compare_keys-loop-i-preserved : goal.compare_keys-loop-i-preserved
compare_keys-loop-i-preserved g t c =
    let answer = rw (← c.index-a-i.is, ← c.index-b-i.is) at c.in-Equal.ensures in
    let in_a : c.loop-i.i < length c.args.a.now = omega arith in
    let in_b : c.loop-i.i < length c.args.b.now = omega arith in
    level rows_of_keys (λ x y. datum_cmp x.0 y.0) keys_step c.args.a.now c.args.b.now c.loop-i.i c.index-a-i.result c.index-b-i.result _ in_a in_b c.index-a-i.is c.index-b-i.is answer c.loop-i.invariant

pub compare_keys-returns : goal.compare_keys-returns
compare_keys-returns g t c =
    sym rows.keys-none
    ∙ sym (at_drop_all (λ xs. rows_of_keys xs []) c.args.a.now c.loop-i.i (omega arith))
    ∙ sym (at_drop_all (λ ys. rows_of_keys (drop c.loop-i.i c.args.a.now) ys) c.args.b.now c.loop-i.i (omega arith))
    ∙ c.loop-i.invariant

pub compare_values-compare-requires : goal.compare_values-compare-requires
compare_values-compare-requires g t c κs within =
    let there : c.loop-i.i < length c.args.a.now = omega arith in
    let deep = depth-entry c.args.a.now c.loop-i.i c.index-a-i.result there c.index-a-i.is in let same = ap (λ p. depth p.1) c.index-a-i.is in (omega arith, within)

pub compare_values-returns-in_default : goal.compare_values-returns-in_default
compare_values-returns-in_default g t c =
    let answer = rw (← c.index-a-i.is, ← c.index-b-i.is) at c.compare.ensures in
    let in_a : c.loop-i.i < length c.args.a.now = omega arith in
    let in_b : c.loop-i.i < length c.args.b.now = omega arith in
    decided rows_of_values (λ x y. datum_cmp x.1 y.1) values_step c.args.a.now c.args.b.now c.loop-i.i c.index-a-i.result c.index-b-i.result c.compare.result _ in_a in_b c.index-a-i.is c.index-b-i.is answer c.in_default.not-Equal c.loop-i.invariant

pub compare_values-loop-i-preserved : goal.compare_values-loop-i-preserved
compare_values-loop-i-preserved g t c =
    let answer = rw (← c.index-a-i.is, ← c.index-b-i.is) at c.in-Equal.ensures in
    let in_a : c.loop-i.i < length c.args.a.now = omega arith in
    let in_b : c.loop-i.i < length c.args.b.now = omega arith in
    level rows_of_values (λ x y. datum_cmp x.1 y.1) values_step c.args.a.now c.args.b.now c.loop-i.i c.index-a-i.result c.index-b-i.result _ in_a in_b c.index-a-i.is c.index-b-i.is answer c.loop-i.invariant

pub compare_values-returns : goal.compare_values-returns
compare_values-returns g t c =
    sym rows.values-none
    ∙ sym (at_drop_all (λ xs. rows_of_values xs []) c.args.a.now c.loop-i.i (omega arith))
    ∙ sym (at_drop_all (λ ys. rows_of_values (drop c.loop-i.i c.args.a.now) ys) c.args.b.now c.loop-i.i (omega arith))
    ∙ c.loop-i.invariant

pub compare_lists-compare-requires : goal.compare_lists-compare-requires
compare_lists-compare-requires g t c κs within =
    let there : c.loop-i.i < length c.args.a.now = omega arith in
    let deep = depth-element c.args.a.now c.loop-i.i c.index-a-i.result there c.index-a-i.is in (omega arith, within)

pub compare_lists-returns-in_default : goal.compare_lists-returns-in_default
compare_lists-returns-in_default g t c =
    let in_a : c.loop-i.i < length c.args.a.now = omega arith in
    let in_b : c.loop-i.i < length c.args.b.now = omega arith in
    decided (rows_of_cells (tail_of (option_copied c.args.a_tail)) (tail_of (option_copied c.args.b_tail))) datum_cmp (cells_step (tail_of (option_copied c.args.a_tail)) (tail_of (option_copied c.args.b_tail))) c.args.a.now c.args.b.now c.loop-i.i c.index-a-i.result c.index-b-i.result c.compare.result _ in_a in_b c.index-a-i.is c.index-b-i.is c.compare.ensures c.in_default.not-Equal c.loop-i.invariant

pub compare_lists-loop-i-preserved : goal.compare_lists-loop-i-preserved
compare_lists-loop-i-preserved g t c =
    let in_a : c.loop-i.i < length c.args.a.now = omega arith in
    let in_b : c.loop-i.i < length c.args.b.now = omega arith in
    level (rows_of_cells (tail_of (option_copied c.args.a_tail)) (tail_of (option_copied c.args.b_tail))) datum_cmp (cells_step (tail_of (option_copied c.args.a_tail)) (tail_of (option_copied c.args.b_tail))) c.args.a.now c.args.b.now c.loop-i.i c.index-a-i.result c.index-b-i.result _ in_a in_b c.index-a-i.is c.index-b-i.is c.in-Equal.ensures c.loop-i.invariant

pub compare_lists-returns-then-shared-b : goal.compare_lists-returns-then-shared-b
compare_lists-returns-then-shared-b g t c =
    let s = tail_of (option_copied c.args.a_tail) in
    let t' = tail_of (option_copied c.args.b_tail) in
    let none = at_drop_all (λ xs. rows_of_cells s t' xs (drop c.loop-i.i c.args.b.now)) c.args.a.now c.loop-i.i (omega arith) in
    let some : 0 < length (drop c.loop-i.i c.args.b.now) = simp length-drop (omega arith) in
    let answer = rw c.tail_rank.ensures at c.cmp.ensures in
    answer ∙ rows.ended-left s t' (drop c.loop-i.i c.args.b.now) (rows.tail-rank (option_copied c.args.a_tail) c.requires.a_tail) some ∙ sym none ∙ c.loop-i.invariant

pub compare_lists-returns-then-shared-a : goal.compare_lists-returns-then-shared-a
compare_lists-returns-then-shared-a g t c =
    let s = tail_of (option_copied c.args.a_tail) in
    let t' = tail_of (option_copied c.args.b_tail) in
    let none = at_drop_all (λ ys. rows_of_cells s t' (drop c.loop-i.i c.args.a.now) ys) c.args.b.now c.loop-i.i (omega arith) in
    let some : 0 < length (drop c.loop-i.i c.args.a.now) = simp length-drop (omega arith) in
    let answer = rw c.tail_rank-then-shared-a.ensures at c.cmp-then-shared-a.ensures in
    answer ∙ rows.ended-right s t' (drop c.loop-i.i c.args.a.now) (rows.tail-rank (option_copied c.args.b_tail) c.requires.b_tail) some ∙ sym none ∙ c.loop-i.invariant

pub compare_tails-returns-in-None-default : goal.compare_tails-returns-in-None-default
compare_tails-returns-in-None-default g t c =
    rw c.in-None-default.is-0 (rw c.tail_rank.ensures at c.cmp.ensures ∙ rows.nil-left (tail_of (option_copied c.args.b)))

pub compare_tails-returns-in-Some-None : goal.compare_tails-returns-in-Some-None
compare_tails-returns-in-Some-None g t c =
    rw (c.in-Some-None.is-0, c.in-Some-None.is-1) (rw c.rank.ensures at c.cmp-in-Some-None.ensures ∙ rows.nil-right c.in-Some-None.a.now)
