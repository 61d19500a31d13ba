use Rattle.std.proofs.Common.{◌≡◌, ◌-◌, ◌<◌, SFits, suc, length, drop, arith, sym, ap, ◌∙◌, subst}
use Rattle.std.specs.Int.{w64}
use Rattle.std.proofs.lemmas.Int.{to_z-of_z}
use Rattle.std.proofs.lemmas.List.{drop_all}
use Rattle.term_core.specs.Datum.{items_of}
use Rattle.term_core.specs.Datum.Datum.{tuple}
use Rattle.term_core.specs.Limits.{depth}
use Rattle.term_core.specs.Order.{datum_cmp}
use Rattle.term_core.proofs.RowLemmas.{depth-element}
use Rattle.term_core.proofs.SameLemmas.{itself, one_before, sizes_differ, tuples_differ}
use Rattle.term_core.proofs.term.same.+same.Goals as goal

pub is_same-returns-in-Integer-Integer : goal.is_same-returns-in-Integer-Integer
unfolding datum_cmp
is_same-returns-in-Integer-Integer g t c =
    let fits_a : SFits w64 c.in-Integer-Integer.left = (rw c.in-Integer-Integer.is-0 at c.a.invariant.0).sound in
    let fits_b : SFits w64 c.in-Integer-Integer.right = (rw c.in-Integer-Integer.is-1 at c.b.invariant.0).sound in
    let left = rw c.in-Integer-Integer.is-0 at c.a.view_is in
    let right = rw c.in-Integer-Integer.is-1 at c.b.view_is in
    rw (← left, ← right) (simp to_z-of_z at c.same_integers.ensures)

pub is_same_within-same_atoms-requires-clause-a : goal.is_same_within-same_atoms-requires-clause-a
is_same_within-same_atoms-requires-clause-a g t c = c.a.invariant.1

pub is_same_within-same_atoms-requires-clause-b : goal.is_same_within-same_atoms-requires-clause-b
is_same_within-same_atoms-requires-clause-b g t c = c.b.invariant.1

pub is_same_within-returns-in-Some : goal.is_same_within-returns-in-Some
is_same_within-returns-in-Some g t c =
    rw (← c.a.view_is, ← c.b.view_is) (rw c.in-Some.is at c.same_atoms.ensures)

pub is_same_within-same_tuples-requires : goal.is_same_within-same_tuples-requires
is_same_within-same_tuples-requires g t c κs within =
    let level = ap depth c.in-Tuple.ensures.value in (omega arith, within)

pub is_same_within-returns-in-Tuple-view : goal.is_same_within-returns-in-Tuple-view
is_same_within-returns-in-Tuple-view g t c =
    rw (← c.in-Tuple.ensures.value, ← c.in-Tuple-view.ensures.value) c.same_tuples.ensures

pub same_tuples-returns-then-a-b : goal.same_tuples-returns-then-a-b
same_tuples-returns-then-a-b g t c = sym (sizes_differ c.args.a.now c.args.b.now c.if-a-b.true)

pub same_items-loop-i-init : goal.same_items-loop-i-init
same_items-loop-i-init g t c =
    drop_all _ c.args.a.now (omega arith) ∙ sym (drop_all _ c.args.b.now (omega (arith, c.requires)))

pub same_items-is_same-requires : goal.same_items-is_same-requires
same_items-is_same-requires g t c κs within =
    let there : c.loop-i.i - 1 < length c.args.a.now = omega arith in
    let deep = depth-element c.args.a.now (c.loop-i.i - 1) c.index-a-i.result there c.index-a-i.is in (omega arith, within)

pub same_items-returns-then-not-is_same : goal.same_items-returns-then-not-is_same
same_items-returns-then-not-is_same g t c =
    sym (tuples_differ c.args.a.now c.args.b.now (c.loop-i.i - 1) c.index-a-i.result c.index-b-i.result (omega arith) c.requires c.index-a-i.is c.index-b-i.is (sym c.is_same.ensures ∙ c.if-not-is_same.true))

pub same_items-loop-i-preserved : goal.same_items-loop-i-preserved
same_items-loop-i-preserved g t c =
    let next : c.loop-i.i ≡ suc (c.loop-i.i - 1) = omega arith in
    one_before c.args.a.now c.args.b.now (c.loop-i.i - 1) c.index-a-i.result c.index-b-i.result (omega arith) c.requires c.index-a-i.is c.index-b-i.is (sym c.is_same.ensures ∙ c.if-not-is_same.false)
    (subst (λ n. drop n c.args.a.now ≡ drop n c.args.b.now) next c.loop-i.invariant)

pub same_items-returns : goal.same_items-returns
same_items-returns g t c =
    let done : c.loop-i.i ≡ 0 = omega arith in
    sym (itself (tuple (items_of c.args.a.now)) (tuple (items_of c.args.b.now)) (ap (λ ds. tuple (items_of ds)) (rw done at c.loop-i.invariant)))
