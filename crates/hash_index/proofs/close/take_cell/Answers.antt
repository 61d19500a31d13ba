use Rattle.std.proofs.Common.{◌≡◌, ap}
use Rattle.hash_index.specs.declared.cell.Cell.{Cell}
use Rattle.hash_index.specs.Cells.{cell_at}
use Rattle.hash_index.proofs.Cells.{taken_holds}
use Rattle.hash_index.proofs.Closing.{takes_from}
use Rattle.hash_index.proofs.close.take_cell.Goals as goal

pub close-requires : goal.close-requires
close-requires c = record {
  gone = taken_holds c.args.cells.now c.args.mixed c.args.at c.place_of-gone.result c.place_of-gone.ensures;
  found = c.requires.found;
  near = c.requires.near;
}

pub returns : goal.returns
returns c =
    let is : (cell_at c.args.cells.now c.place_of-gone.result).at ≡ c.args.at = ap (λ (x : Cell). x.at) c.place_of-gone.ensures.cell in
    record {
      found = c.close.ensures.found;
      near = c.close.ensures.near;
      takes = takes_from c.args.cells.now c.close.new.cells c.place_of-gone.result c.args.at c.requires.found
          (taken_holds c.args.cells.now c.args.mixed c.args.at c.place_of-gone.result c.place_of-gone.ensures) is c.close.ensures.moved;
      free = c.close.ensures.free;
      count = c.close.ensures.count;
    }
