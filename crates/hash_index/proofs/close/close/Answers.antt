use Rattle.std.proofs.Common.{◌≡◌, ℕ, ◌+◌, ◌<◌, length, count_by, length-set, refl, true, set, sym, ap, subst, ◌∙◌, arith}
use Rattle.hash_index.specs.declared.cell.Cell.{Cell}
use Rattle.hash_index.specs.Cells.{is_end, is_free, IsTaken, cell_at}
use Rattle.hash_index.specs.Kept.{AreFound, AreMoved, AreNear}
use Rattle.hash_index.proofs.Cells.{read}
use Rattle.hash_index.proofs.Closing.{way, Closes, closes_first, none_past_end, none_so_far, closed_found, closed_near, closed_moved, closed_free, some_ahead, closes_filled, lesser}
use Rattle.hash_index.proofs.close.close.Goals.{then-is_end-via-then-is_end, then-is_end-via-else-is_end+then-longest-distance}
use Rattle.hash_index.proofs.close.close.Goals as goal

abbrev zero_cell : Cell
zero_cell = record { mixed = 0; at = 0 }

pub loop-looked-init : goal.loop-looked-init
loop-looked-init c =
    let old = c.args.cells.now in
    subst (λ (x : Cell). Closes (length old) c.args.longest old (set old c.args.gone x) c.args.gone c.args.gone c.next-pos.result 1)
    (sym c.tombstone.ensures)
    (closes_first (length old) c.args.longest old c.args.gone c.next-pos.result refl c.requires.gone c.requires.found c.requires.near
    c.next-pos.ensures)

pub returns-then-is_end : goal.returns-then-is_end
returns-then-is_end c =
    let n = length c.args.cells.now in
    let old = c.args.cells.now in
    let now = c.loop-looked.cells in
    let hole = c.loop-looked.hole in
    let pos = c.loop-looked.pos in
    let looked = c.loop-looked._looked in
    let s = c.loop-looked.invariant in
    let on = lesser n 40 looked c.min-looked-end.result c.min-looked-end.ensures c.loop-looked-test.true in
    let none : (i : ℕ) → IsTaken (cell_at now i) → way n now i hole < way n now i i → ⊥ = elim c.then-is_end.branch [
      | then-is_end-via-then-is_end w ↦
          let at = read now pos zero_cell (subst (λ k. pos < k) (sym s.count) s.in_pos) in
          let ends : is_end (cell_at now pos) ≡ true = sym (ap is_end at) ∙ sym c.is_end.ensures ∙ w.if-is_end.true in
          none_past_end n c.args.longest old now c.args.gone hole pos looked s on ends
      | then-is_end-via-else-is_end+then-longest-distance w ↦
          let far = w.distance.ensures in
          let as_far = w.if-longest-distance.true in
          none_so_far n c.args.longest old now c.args.gone hole pos looked s on (omega (arith, s.count))
    ] in
    let is = sym c.free_cell.ensures in
    record {
      found = subst (λ (x : Cell). AreFound (set now hole x)) is (closed_found n c.args.longest old now c.args.gone hole pos looked s none);
      near = subst (λ (x : Cell). AreNear (set now hole x) c.args.longest) is (closed_near n c.args.longest old now c.args.gone hole pos looked s none);
      moved = subst (λ (x : Cell). AreMoved old (set now hole x) c.args.gone) is (closed_moved n c.args.longest old now c.args.gone hole pos looked s none);
      free = subst (λ (x : Cell). count_by is_free (set now hole x) ≡ count_by is_free old + 1) is
          (closed_free n c.args.longest old now c.args.gone hole pos looked s none);
      count = length-set now hole c.free_cell.result ∙ s.count;
    }

pub fill-hole-requires-clause-apart : goal.fill-hole-requires-clause-apart
fill-hole-requires-clause-apart c =
    let n = length c.args.cells.now in
    let looked = c.loop-looked._looked in
    let on = lesser n 40 looked c.min-looked-end.result c.min-looked-end.ensures c.loop-looked-test.true in
    some_ahead n c.args.longest c.args.cells.now c.loop-looked.cells c.args.gone c.loop-looked.hole c.loop-looked.pos looked
    c.loop-looked.invariant on

pub loop-looked-preserved : goal.loop-looked-preserved
loop-looked-preserved c =
    let n = length c.args.cells.now in
    let looked = c.loop-looked._looked in
    let on = lesser n 40 looked c.min-looked-end.result c.min-looked-end.ensures c.loop-looked-test.true in
    closes_filled n c.args.longest c.args.cells.now c.loop-looked.cells c.args.gone c.loop-looked.hole c.loop-looked.pos looked
    c.loop-looked.invariant on c.next-pos-in-loop-looked.result c.next-pos-in-loop-looked.ensures c.fill-hole.new.cells
    c.fill-hole.result c.fill-hole.ensures
