use Rattle.std.proofs.Common.{◌≡◌, ℕ, ◌+◌, ◌-◌, true, length, get_or, refl, sym, ap, subst, ◌∙◌, arith}
use borrow.Author.Rules.{of_calls}
use Rattle.hash_index.specs.declared.cell.Cell.{Cell}
use Rattle.hash_index.specs.Cells.{is_free, IsTaken, cell_at}
use Rattle.hash_index.specs.Index.{HasIn, Puts}
use Rattle.hash_index.specs.Kept.{AreNear}
use Rattle.hash_index.proofs.Cells.{read, taken_from, holds_read}
use Rattle.hash_index.proofs.Mixing.{Mixing, mixing_first, mixing_skip, mixing_room, mixing_free, mixing_absent, mixing_put, mixing_last, mixing_left, greater}
use Rattle.hash_index.proofs.anew.put_all.Goals.{then-not-is_free, else-not-is_free}
use Rattle.hash_index.proofs.anew.put_all.Goals as goal

abbrev zero_cell : Cell
zero_cell = record { mixed = 0; at = 0 }

pub loop-cell-init : goal.loop-cell-init
loop-cell-init g c =
    let R = λ (cell : Cell) (n : ℕ). goal.F-post g c.args.mixed_of cell n in
    subst (λ cells. Mixing R c.args.old.now cells c.most_rows-room.result 0 0) (sym c.requires.free)
    (mixing_first R c.args.old.now (length c.args.cells.now) c.most_rows-room.result c.most_rows-room.ensures c.requires.room)

pub mixed_of-mixed-requires : goal.mixed_of-mixed-requires
mixed_of-mixed-requires g c =
    let old = c.args.old.now in
    let i : ℕ = c.loop-cell.cell-index in
    let x : Cell = get_or old i zero_cell in
    let held = holds_read old i zero_cell x.mixed c.loop-cell-test.true
    (taken_from x (sym c.is_free.ensures ∙ c.if-not-is_free.true), refl) in
    let call = c.requires.callable x.mixed x.at (i, held) in
    search (of_calls, call)

pub put_cell-passed-requires : goal.put_cell-passed-requires
put_cell-passed-requires g c =
    let R = λ (cell : Cell) (n : ℕ). goal.F-post g c.args.mixed_of cell n in
    let old = c.args.old.now in
    let now = c.loop-cell.cells in
    let i : ℕ = c.loop-cell.cell-index in
    let s = c.loop-cell.invariant in
    let at = read old i zero_cell c.loop-cell-test.true in
    let read_taken : IsTaken (get_or old i zero_cell) = taken_from (get_or old i zero_cell) (sym c.is_free.ensures ∙ c.if-not-is_free.true) in
    let taken : IsTaken (cell_at old i) = subst (λ (x : Cell). IsTaken x) at read_taken in
    record {
      at = read_taken;
      free = mixing_free R old now c.loop-cell.room c.loop-cell.longest i s c.loop-cell-test.true taken;
      absent = λ m has. mixing_absent R old now c.loop-cell.room c.loop-cell.longest i s c.loop-cell-test.true taken c.requires.found m
          (subst (λ (x : Cell). HasIn now m x.at) at has);
      found = s.found;
    }

pub loop-cell-preserved : goal.loop-cell-preserved
loop-cell-preserved g c =
    let R = λ (cell : Cell) (n : ℕ). goal.F-post g c.args.mixed_of cell n in
    let old = c.args.old.now in
    let now = c.loop-cell.cells in
    let i : ℕ = c.loop-cell.cell-index in
    let room : ℕ = c.loop-cell.room in
    let longest : ℕ = c.loop-cell.longest in
    let s = c.loop-cell.invariant in
    let at = read old i zero_cell c.loop-cell-test.true in
    elim c.if-not-is_free.branch [
      | then-not-is_free w ↦
          let taken : IsTaken (cell_at old i) = subst (λ (x : Cell). IsTaken x) at
          (taken_from (get_or old i zero_cell) (sym c.is_free.ensures ∙ w.if-not-is_free.true)) in
          let mixed : ℕ = w.mixed_of-mixed.result in
          let new = w.put_cell-passed.new.cells in
          let some = mixing_room R old now room longest i s c.loop-cell-test.true taken in
          let further : ℕ = w.max-longest.result in
          let went = mixing_put R old now room longest i s c.loop-cell-test.true taken new mixed (room - 1) further
          (subst (λ (x : Cell). R x mixed) at w.mixed_of-mixed.ensures) w.put_cell-passed.ensures.found
          (subst (AreNear new) (sym (w.max-longest.ensures ∙ greater longest (w.put_cell-passed.result + 1)))
          (w.put_cell-passed.ensures.near longest s.near))
          (subst (λ (x : Cell). Puts now new mixed x.at) at w.put_cell-passed.ensures.puts)
          w.put_cell-passed.ensures.free w.put_cell-passed.ensures.count (omega arith) in
          subst (λ r. Mixing R old c.if-not-is_free.cells r c.if-not-is_free.longest (i + 1)) (sym w.room-is)
          (subst (λ l. Mixing R old c.if-not-is_free.cells (room - 1) l (i + 1)) (sym w.longest-is)
          (subst (λ cells. Mixing R old cells (room - 1) further (i + 1)) (sym w.cells-is) went))
      | else-not-is_free w ↦
          let free : is_free (cell_at old i) ≡ true = sym (ap is_free at) ∙ sym c.is_free.ensures ∙ w.if-not-is_free.false in
          let went = mixing_skip R old now room longest i s c.loop-cell-test.true free in
          subst (λ r. Mixing R old c.if-not-is_free.cells r c.if-not-is_free.longest (i + 1)) (sym w.room-is)
          (subst (λ l. Mixing R old c.if-not-is_free.cells room l (i + 1)) (sym w.longest-is)
          (subst (λ cells. Mixing R old cells room longest (i + 1)) (sym w.cells-is) went))
    ]

pub returns : goal.returns
returns g c =
    let R = λ (cell : Cell) (n : ℕ). goal.F-post g c.args.mixed_of cell n in
    let s = c.loop-cell.invariant in
    record {
      found = s.found;
      mixed = mixing_last R c.args.old.now c.loop-cell.cells c.loop-cell.room c.loop-cell.longest c.loop-cell.cell-index s c.loop-cell-test.false;
      load = s.load;
      near = s.near;
      room = mixing_left R c.args.old.now c.loop-cell.cells c.loop-cell.room c.loop-cell.longest c.loop-cell.cell-index s c.loop-cell-test.false;
      count = c.loop-cell.auto.cells;
    }
