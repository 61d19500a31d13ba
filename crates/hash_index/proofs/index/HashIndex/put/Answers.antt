use Rattle.std.proofs.Common.{◌≡◌, List, sym, ap, subst, ◌∙◌, arith}
use Rattle.std.proofs.lemmas.List.{with_items_is}
use Rattle.hash_index.specs.declared.cell.Cell.{Cell}
use Rattle.hash_index.specs.Index.{cells, room, HasIn, Passing, Puts}
use Rattle.hash_index.proofs.index.HashIndex.put.Goals as goal

pub put_cell-passed-requires-clause-absent : goal.put_cell-passed-requires-clause-absent
put_cell-passed-requires-clause-absent g c =
    let is : c.as_mut_slice.result.now ≡ cells c.args.self.now = c.as_mut_slice.ensures.value ∙ ap (λ v. v.0) c.self.view_is in
    λ m has. c.requires.absent m (subst (λ (x : List Cell). HasIn x m c.args.at) is has)

pub returns : goal.returns
returns g c =
    let new = c.put_cell-passed.new.cells in
    let is = with_items_is c.self.inside.cells new (c.put_cell-passed.ensures.count ∙ c.as_mut_slice.ensures.len) in
    let was : c.as_mut_slice.result.now ≡ cells c.args.self.now = c.as_mut_slice.ensures.value ∙ ap (λ v. v.0) c.self.view_is in
    let left : c.self.inside.left ≡ room c.args.self.now = ap (λ v. v.1) c.self.view_is in
    let some = c.requires.room in
    record {
      puts = subst (λ (x : List Cell). Puts (cells c.args.self.now) x c.args.mixed c.args.at) (sym is)
          (subst (λ (x : List Cell). Puts x new c.args.mixed c.args.at) was c.put_cell-passed.ensures.puts);
      passed = subst (λ (x : List Cell). Passing x c.args.mixed c.args.at c.put_cell-passed.result) (sym is) c.put_cell-passed.ensures.passed;
      room = omega arith;
    }
