use Rattle.std.proofs.Common.{◌≡◌, ◌<◌, length, get_or, sym, subst, arith}
use Rattle.hash_index.specs.declared.cell.Cell.{Cell}
use Rattle.hash_index.specs.Cells.{home}
use Rattle.hash_index.proofs.Cells.{IsOf, read}
use Rattle.hash_index.proofs.Searches.{Missed, missed_start, missed_next}
use Rattle.hash_index.proofs.search.place_of.Goals as goal

abbrev zero_cell : Cell
zero_cell = record { mixed = 0; at = 0 }

pub loop-looked-init : goal.loop-looked-init
loop-looked-init c =
    let cells = c.args.cells.now in
    let P = λ (cell : Cell). IsOf cell c.args.mixed → cell.at ≡ c.args.at → ⊥ in
    let start = home (length cells) c.args.mixed in
    let in_start : start < length cells = subst (λ p. p < length cells) c.home-pos.ensures.value c.home-pos.ensures.within in
    subst (Missed P cells start 0) (sym c.home-pos.ensures.value) (missed_start P cells start in_start)

pub loop-looked-preserved : goal.loop-looked-preserved
loop-looked-preserved c =
    let cells = c.args.cells.now in
    let pos = c.loop-looked.pos in
    let P = λ (cell : Cell). IsOf cell c.args.mixed → cell.at ≡ c.args.at → ⊥ in
    let start = home (length cells) c.args.mixed in
    let in_start : start < length cells = subst (λ p. p < length cells) c.home-pos.ensures.value c.home-pos.ensures.within in
    let at = read cells pos zero_cell c.loop-looked.invariant.within in
    let miss : P (get_or cells pos zero_cell) = λ of is. c.if-cells-pos.false is in
    let within = c.requires.near.within in
    let less = c.loop-looked-test.true in
    let on : c.loop-looked._looked < length cells = omega arith in
    missed_next P cells start in_start c.loop-looked._looked pos c.loop-looked.invariant on
    c.next-pos.result (subst P at miss) c.next-pos.ensures
