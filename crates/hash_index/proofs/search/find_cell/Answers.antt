use Rattle.std.proofs.Common.{◌≡◌, ℕ, ◌<◌, true, false, length, get_or, refl, sym, ap, subst, ◌∙◌, arith}
use borrow.Author.Rules.{of_calls}
use Rattle.hash_index.specs.declared.cell.Cell.{Cell}
use Rattle.hash_index.specs.Cells.{cell_at, is_end, home}
use Rattle.hash_index.specs.Index.{Holds}
use Rattle.hash_index.proofs.Cells.{IsOf, read, taken_from, not_both, holds_read}
use Rattle.hash_index.proofs.Searches.{Missed, missed_start, missed_next, missed_at_end, missed_all}
use Rattle.hash_index.proofs.search.find_cell.Goals.{then-is_free+else-is_end, else-is_free+then-cell-mixed+else-eq, else-is_free+else-cell-mixed}
use Rattle.hash_index.proofs.search.find_cell.Goals as goal

abbrev zero_cell : Cell
zero_cell = record { mixed = 0; at = 0 }

pub loop-passed-init : goal.loop-passed-init
loop-passed-init g c =
    let cells = c.args.cells.now in
    let P = λ (cell : Cell). IsOf cell c.args.mixed → goal.F-post g c.args.eq cell.at false in
    let start = home (length cells) c.args.mixed in
    let in_start : start < length cells = subst (λ p. p < length cells) c.home-pos.ensures.value c.home-pos.ensures.within in
    subst (Missed P cells start 0) (sym c.home-pos.ensures.value) (missed_start P cells start in_start)

pub returns-then-is_end-clause-absent : goal.returns-then-is_end-clause-absent
returns-then-is_end-clause-absent g c =
    let cells = c.args.cells.now in
    let M = λ (at : ℕ). goal.F-post g c.args.eq at false in
    let start = home (length cells) c.args.mixed in
    let in_start : start < length cells = subst (λ p. p < length cells) c.home-pos.ensures.value c.home-pos.ensures.within in
    let at = read cells c.loop-passed.pos zero_cell c.loop-passed.invariant.within in
    let ends : is_end (cell_at cells c.loop-passed.pos) ≡ true = sym (ap is_end at) ∙ sym c.is_end.ensures ∙ c.if-is_end.true in
    let within = c.requires.near.within in
    let less = c.loop-passed-test.true in
    let on : c.loop-passed._passed < length cells = omega arith in
    missed_at_end cells start in_start M c.args.mixed refl c.loop-passed._passed c.loop-passed.pos c.loop-passed.invariant
    on c.requires.found ends

pub eq-requires : goal.eq-requires
eq-requires g c =
    let cells = c.args.cells.now in
    let held = holds_read cells c.loop-passed.pos zero_cell c.args.mixed c.loop-passed.invariant.within
    (taken_from (get_or cells c.loop-passed.pos zero_cell) (sym c.is_free.ensures ∙ c.if-is_free.false), c.if-cell-mixed.true) in
    search (of_calls, c.requires.callable _ (c.loop-passed.pos, held))

pub returns-then-eq-clause-found : goal.returns-then-eq-clause-found
returns-then-eq-clause-found g c =
    let cells = c.args.cells.now in
    let pos = c.loop-passed.pos in
    let at = read cells pos zero_cell c.loop-passed.invariant.within in
    let held = holds_read cells pos zero_cell c.args.mixed c.loop-passed.invariant.within
    (taken_from (get_or cells c.loop-passed.pos zero_cell) (sym c.is_free.ensures ∙ c.if-is_free.false), c.if-cell-mixed.true) in (
      subst (λ (x : Cell). Holds cells c.args.mixed x.at pos) at held,
      subst (λ (x : Cell). goal.F-post g c.args.eq x.at true) at
          (subst (goal.F-post g c.args.eq (get_or cells pos zero_cell).at) c.if-eq.true c.eq.ensures),
    )

pub loop-passed-preserved : goal.loop-passed-preserved
loop-passed-preserved g c =
    let cells = c.args.cells.now in
    let pos = c.loop-passed.pos in
    let P = λ (cell : Cell). IsOf cell c.args.mixed → goal.F-post g c.args.eq cell.at false in
    let start = home (length cells) c.args.mixed in
    let in_start : start < length cells = subst (λ p. p < length cells) c.home-pos.ensures.value c.home-pos.ensures.within in
    let at = read cells pos zero_cell c.loop-passed.invariant.within in
    let miss : P (get_or cells pos zero_cell) = elim c.if-is_free.branch [
      | then-is_free+else-is_end w ↦ λ of. absurd (not_both (get_or cells pos zero_cell) (sym c.is_free.ensures ∙ w.if-is_free.true) of.0)
      | else-is_free+then-cell-mixed+else-eq w ↦ λ of. subst (goal.F-post g c.args.eq (get_or cells pos zero_cell).at) w.if-eq.false w.eq.ensures
      | else-is_free+else-cell-mixed w ↦ λ of. absurd (w.if-cell-mixed.false of.1)
    ] in
    let within = c.requires.near.within in
    let less = c.loop-passed-test.true in
    let on : c.loop-passed._passed < length cells = omega arith in
    missed_next P cells start in_start c.loop-passed._passed pos c.loop-passed.invariant on
    c.next-pos.result (subst P at miss) c.next-pos.ensures

pub returns-clause-absent : goal.returns-clause-absent
returns-clause-absent g c =
    let cells = c.args.cells.now in
    let M = λ (at : ℕ). goal.F-post g c.args.eq at false in
    let start = home (length cells) c.args.mixed in
    let in_start : start < length cells = subst (λ p. p < length cells) c.home-pos.ensures.value c.home-pos.ensures.within in
    missed_all cells start in_start M c.args.mixed refl c.loop-passed._passed c.loop-passed.pos c.loop-passed.invariant
    c.args.longest c.loop-passed-test.false c.requires.near
