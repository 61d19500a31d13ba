use Rattle.std.proofs.Common.{◌≡◌, ◌<◌, true, length, inl, inr, get_or, refl, ap, subst, sym, ◌∙◌, arith}
use Rattle.hash_index.specs.declared.cell.Cell.{Cell}
use Rattle.hash_index.specs.Cells.{cell_at, distance, home, is_free, IsTaken}
use Rattle.hash_index.proofs.Cells.{read, taken_from, not_both}
use Rattle.hash_index.proofs.Closing.{comes_first, comes_not}
use Rattle.hash_index.proofs.close.fill.Goals as goal

abbrev zero_cell : Cell
zero_cell = record { mixed = 0; at = 0 }

pub returns-then-is_free : goal.returns-then-is_free
returns-then-is_free c =
    let old = c.args.cells.now in
    let at = read old c.args.pos zero_cell c.requires.pos in
    let free : is_free (cell_at old c.args.pos) ≡ true = sym (ap is_free at) ∙ sym c.is_free.ensures ∙ c.if-is_free.true in
    inr (λ taken. absurd (not_both (cell_at old c.args.pos) free taken), refl, refl)

pub returns-then-behind-passed : goal.returns-then-behind-passed
returns-then-behind-passed c =
    let old = c.args.cells.now in
    let n = length old in
    let pos = c.args.pos in
    let start = home n (cell_at old pos).mixed in
    let at = read old pos zero_cell c.requires.pos in
    let taken : IsTaken (cell_at old pos) = subst (λ (x : Cell). IsTaken x) at
    (taken_from (get_or old pos zero_cell) (sym c.is_free.ensures ∙ c.if-is_free.false)) in
    let is : c.home.result ≡ start = c.home.ensures.value ∙ ap (λ (x : Cell). home n x.mixed) at in
    let way : c.distance-passed.result ≡ distance n start pos = c.distance-passed.ensures ∙ ap (λ s. distance n s pos) is in
    let in_start : start < n = subst (λ s. s < n) is c.home.ensures.within in
    let gap = c.distance-behind.ensures in
    let far = c.if-behind-passed.true in
    inl (
      taken,
      comes_first n start c.args.hole pos in_start c.requires.hole c.requires.pos c.requires.apart (omega arith),
      c.move_into.ensures,
      refl,
    )

pub returns : goal.returns
returns c =
    let old = c.args.cells.now in
    let n = length old in
    let pos = c.args.pos in
    let start = home n (cell_at old pos).mixed in
    let is : c.home.result ≡ start = c.home.ensures.value ∙ ap (λ (x : Cell). home n x.mixed) (read old pos zero_cell c.requires.pos) in
    let way : c.distance-passed.result ≡ distance n start pos = c.distance-passed.ensures ∙ ap (λ s. distance n s pos) is in
    let in_start : start < n = subst (λ s. s < n) is c.home.ensures.within in
    let gap = c.distance-behind.ensures in
    let near = c.if-behind-passed.false in
    inr (λ _. comes_not n start c.args.hole pos in_start c.requires.hole c.requires.pos (omega arith), refl, refl)
