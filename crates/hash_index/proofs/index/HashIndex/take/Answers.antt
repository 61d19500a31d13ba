use Rattle.std.proofs.Common.{◌≡◌, ◌+◌, List, sym, ap, subst, ◌∙◌}
use Rattle.std.proofs.lemmas.List.{with_items_is}
use Rattle.hash_index.specs.declared.cell.Cell.{Cell}
use Rattle.hash_index.specs.Index.{cells, Takes}
use Rattle.hash_index.proofs.index.HashIndex.take.Goals as goal

pub returns : goal.returns
returns g c =
    let new = c.take_cell.new.cells in
    let is = with_items_is c.self.inside.cells new (c.take_cell.ensures.count ∙ c.as_mut_slice.ensures.len) in
    let was : c.as_mut_slice.result.now ≡ cells c.args.self.now = c.as_mut_slice.ensures.value ∙ ap (λ v. v.0) c.self.view_is in
    record {
      takes = subst (λ (x : List Cell). Takes (cells c.args.self.now) x c.args.at) (sym is)
          (subst (λ (x : List Cell). Takes x new c.args.at) was c.take_cell.ensures.takes);
      room = ap (λ v. v.1 + 1) c.self.view_is;
    }
