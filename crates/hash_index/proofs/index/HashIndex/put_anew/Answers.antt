use Rattle.std.proofs.Common.{◌≡◌, ℕ, List, length, count_by, sym, ap, subst, ◌∙◌, arith}
use Rattle.std.proofs.lemmas.List.{with_items_is, length-replicate}
use Rattle.hash_index.specs.declared.cell.Cell.{Cell}
use Rattle.hash_index.specs.Cells.{free_cell, is_free}
use Rattle.hash_index.specs.Index.{cells, AreMixed}
use Rattle.hash_index.proofs.Cells.{the_cell}
use Rattle.hash_index.proofs.index.HashIndex.put_anew.Goals as goal

pub put_all-left-requires-clause-room : goal.put_all-left-requires-clause-room
put_all-left-requires-clause-room g c =
    let items = c.self.inside.cells.items in
    let load = c.self.invariant.load in
    let long : c.len.result ≡ length items = c.len.ensures ∙ c.self.inside.cells.ok.0 in
    let enough = c.in_ok-count.ensures (count_by is_free items) (omega arith) in
    let count = ap length c.as_slice.ensures.value in
    let free = ap (count_by is_free) c.as_slice.ensures.value in
    let anew : length c.as_mut_slice.result.now ≡ c.in_ok-count.count
    = ap length (c.as_mut_slice.ensures.value ∙ c.in_ok-cells.ensures) ∙ length-replicate c.in_ok-count.count free_cell in
    omega arith

pub returns : goal.returns
returns g c =
    let R = λ (m a n : ℕ). goal.F-post g c.args.mixed_of (the_cell m a) n in
    let new = c.put_all-left.new.cells in
    let is = with_items_is c.in_ok-cells.cells new (c.put_all-left.ensures.count ∙ c.as_mut_slice.ensures.len) in
    let was : c.as_slice.result.now ≡ cells c.args.self.now = c.as_slice.ensures.value ∙ ap (λ v. v.0) c.self.view_is in
    record {
      mixed = subst (λ (x : List Cell). AreMixed R (cells c.args.self.now) x) (sym is)
          (subst (λ (x : List Cell). AreMixed R x new) was c.put_all-left.ensures.mixed);
      room = c.put_all-left.ensures.room;
      refused = tt;
    }
