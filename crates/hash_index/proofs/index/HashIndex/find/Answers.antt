use Rattle.std.proofs.Common.{◌≡◌, true, List, sym, ap, subst, ◌∙◌}
use Rattle.hash_index.specs.declared.cell.Cell.{Cell}
use Rattle.hash_index.specs.Cells.{cell_at}
use Rattle.hash_index.specs.Index.{cells, HasIn, Holds}
use Rattle.hash_index.specs.Kept.{AreFound, AreNear}
use Rattle.hash_index.proofs.Cells.{read, taken_within, taken_holds}
use Rattle.hash_index.proofs.index.HashIndex.find.Goals as goal

pub find_cell-requires : goal.find_cell-requires
find_cell-requires g c =
    let value = c.as_slice.ensures.value in
    let is : c.as_slice.result.now ≡ cells c.args.self.now = value ∙ ap (λ v. v.0) c.self.view_is in
    record {
      found = subst AreFound (sym value) c.self.invariant.found;
      near = subst (λ (x : List Cell). AreNear x c.self.inside.longest_probe) (sym value) c.self.invariant.near;
      callable = λ at has. c.requires at (subst (λ (x : List Cell). HasIn x c.args.mixed at) is has);
    }

pub returns-in-Some : goal.returns-in-Some
returns-in-Some g c =
    let items = c.self.inside.cells.items in
    let pos = c.in-Some.pos in
    let whole : items ≡ cells c.args.self.now = ap (λ v. v.0) c.self.view_is in
    let P : List Cell → Type 0 = λ x. Holds x c.args.mixed (cell_at x pos).at pos × goal.F-post g c.args.eq (cell_at x pos).at true in
    let there : P items = subst P c.as_slice.ensures.value c.in-Some.ensures.found in
    let within = taken_within items pos (taken_holds items c.args.mixed (cell_at items pos).at pos there.0) in
    let at = c.index.ensures ∙ read items pos c.index.result.now within in
    let Q : Cell → Type 0 = λ x. HasIn (cells c.args.self.now) c.args.mixed x.at × goal.F-post g c.args.eq x.at true in
    record {
      found = subst Q (sym at) ((pos, subst (λ (x : List Cell). Holds x c.args.mixed (cell_at items pos).at pos) whole there.0), there.1);
      absent = tt;
    }

pub returns-in-None : goal.returns-in-None
returns-in-None g c =
    let is : c.as_slice.result.now ≡ cells c.args.self.now = c.as_slice.ensures.value ∙ ap (λ v. v.0) c.self.view_is in
    record {
      found = tt;
      absent = λ at has. c.in-None.ensures.absent at (subst (λ (x : List Cell). HasIn x c.args.mixed at) (sym is) has);
    }
