use Rattle.std.proofs.Common.{◌≡◌, ◌<◌, length, set, length-set, subst, sym, ◌∙◌, ap}
use Rattle.hash_index.specs.Cells.{home, distance}
use Rattle.hash_index.specs.Kept.{IsFirstFree}
use Rattle.hash_index.proofs.Cells.{the_cell, taken_is}
use Rattle.hash_index.proofs.Writes.{writes_set, fewer_free, put_found, put_puts, put_passing, put_within, put_near}
use Rattle.hash_index.proofs.search.put_cell.Goals as goal

pub returns : goal.returns
returns c =
    let old = c.args.cells.now in
    let pos = c.free_from-pos.result in
    let cell = the_cell c.args.mixed c.args.at in
    let first : IsFirstFree old (home (length old) c.args.mixed) pos
    = subst (λ start. IsFirstFree old start pos) c.home-start.ensures.value c.free_from-pos.ensures in
    let w = writes_set old pos cell first.within in
    let new = set old pos cell in
    let far : c.distance.result ≡ distance (length old) (home (length old) c.args.mixed) pos
    = c.distance.ensures ∙ ap (λ start. distance (length old) start pos) c.home-start.ensures.value in
    let passing = put_passing old new c.args.mixed c.args.at pos c.requires.at c.requires.found first c.requires.absent w in
    record {
      found = put_found old new c.args.mixed c.args.at pos c.requires.at c.requires.found first c.requires.absent w;
      puts = put_puts old new c.args.mixed c.args.at pos c.requires.at c.requires.found first c.requires.absent w;
      passed = (passing.0, passing.1, far ∙ passing.2);
      within = subst (λ d. d < length old) (sym far)
          (put_within old new c.args.mixed c.args.at pos c.requires.at c.requires.found first c.requires.absent w);
      near = λ longest near.
          put_near old new c.args.mixed c.args.at pos c.requires.at c.requires.found first c.requires.absent w c.distance.result longest far near;
      free = fewer_free old pos cell first.within first.free (taken_is cell c.requires.at);
      count = length-set old pos cell;
    }
