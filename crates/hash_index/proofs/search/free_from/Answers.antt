use Rattle.std.proofs.Common.{◌≡◌, true, get_or, sym, ap, subst, ◌∙◌}
use Rattle.hash_index.specs.declared.cell.Cell.{Cell}
use Rattle.hash_index.specs.Cells.{IsTaken, cell_at, is_free}
use Rattle.hash_index.proofs.Cells.{read, taken_from, free_there}
use Rattle.hash_index.proofs.Searches.{missed_start, missed_next, first_free, none_free}
use Rattle.hash_index.proofs.search.free_from.Goals as goal

abbrev zero_cell : Cell
zero_cell = record { mixed = 0; at = 0 }

pub loop-taken-init : goal.loop-taken-init
loop-taken-init c = missed_start (λ cell. IsTaken cell) c.args.cells.now c.args.start c.requires.start

pub returns-then-is_free : goal.returns-then-is_free
returns-then-is_free c =
    let at = read c.args.cells.now c.loop-taken.pos zero_cell c.loop-taken.invariant.within in
    let free : is_free (cell_at c.args.cells.now c.loop-taken.pos) ≡ true = sym (ap is_free at) ∙ sym c.is_free.ensures ∙ c.if-is_free.true in
    first_free c.args.cells.now c.args.start c.requires.start c.loop-taken._taken c.loop-taken.pos
    c.loop-taken.invariant c.loop-taken-test.true free

pub loop-taken-preserved : goal.loop-taken-preserved
loop-taken-preserved c =
    let at = read c.args.cells.now c.loop-taken.pos zero_cell c.loop-taken.invariant.within in
    let taken : IsTaken (cell_at c.args.cells.now c.loop-taken.pos)
    = subst (λ (x : Cell). IsTaken x) at (taken_from (get_or c.args.cells.now c.loop-taken.pos zero_cell) (sym c.is_free.ensures ∙ c.if-is_free.false)) in
    missed_next (λ cell. IsTaken cell) c.args.cells.now c.args.start c.requires.start c.loop-taken._taken c.loop-taken.pos
    c.loop-taken.invariant c.loop-taken-test.true c.next-pos.result taken c.next-pos.ensures

pub unreachable-requires : goal.unreachable-requires
unreachable-requires c =
    let there = free_there c.args.cells.now c.requires.free in
    none_free c.args.cells.now c.args.start c.requires.start c.loop-taken._taken c.loop-taken.pos
    c.loop-taken.invariant c.loop-taken-test.false there.0 there.1 there.2
