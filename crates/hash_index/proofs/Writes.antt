-- A write to one cell, and the insertion of a row.
use Rattle.std.proofs.Common.{◌≡◌, ◌≢◌, ℕ, ◌+◌, ◌<◌, max, inl, inr, true, false, List, length, set, sym, ap, subst, ◌∙◌, arith, length-set}
use native.Mathlib.Decide.{ℕ_discrete}
use Rattle.std.specs.List.{count_by}
use Rattle.std.proofs.lemmas.List.{get_or-set_same, get_or-set_other}
use Rattle.std.proofs.lemmas.List.Sums.{sum_by-set}
use Rattle.std.proofs.lemmas.Int.{clamps}
use Rattle.hash_index.specs.declared.cell.Cell.{Cell}
use Rattle.hash_index.specs.Cells.{free, free_cell, is_free, is_end, IsTaken, cell_at, distance, home, passed}
use Rattle.hash_index.specs.Index.{HasIn, Holds, Passing, Puts}
use Rattle.hash_index.specs.Kept.{AreFound, AreNear, IsFirstFree}
use Rattle.hash_index.proofs.Cells.{the_cell, one_if, counted, not_counted, not_both, taken_goes_on, taken_holds}
use Rattle.hash_index.proofs.Distances.{home_within, distance_within}

-- the cell at one position is another, and the other cells are as they were
pub record Writes (old new : List Cell) (at : ℕ) (cell : Cell) : Type 0 where
  pub count : length new ≡ length old
  pub here : cell_at new at ≡ cell
  pub others : (i : ℕ) → i ≢ at → cell_at new i ≡ cell_at old i

pub writes_set : (cells : List Cell) (at : ℕ) (cell : Cell) → at < length cells → Writes cells (set cells at cell) at cell
writes_set cells at cell within = record {
  count = length-set cells at cell;
  here = get_or-set_same cells at cell free_cell within;
  others = λ i other. get_or-set_other cells at i cell free_cell other;
}

-- the count of free cells changes by what the old and the new cell add to it
free_sum : (cells : List Cell) (at : ℕ) (cell : Cell) → at < length cells
    → count_by is_free (set cells at cell) + one_if (is_free (cell_at cells at)) ≡ count_by is_free cells + one_if (is_free cell)
free_sum cells at cell within = sum_by-set (λ (x : Cell). one_if (is_free x)) cells at cell free_cell within

pub fewer_free : (cells : List Cell) (at : ℕ) (cell : Cell) → at < length cells → is_free (cell_at cells at) ≡ true
    → is_free cell ≡ false → count_by is_free (set cells at cell) + 1 ≡ count_by is_free cells
fewer_free cells at cell within was now =
    let sum = free_sum cells at cell within in
    let one = counted (cell_at cells at) was in
    let none = not_counted cell now in
    omega arith

pub more_free : (cells : List Cell) (at : ℕ) (cell : Cell) → at < length cells → is_free (cell_at cells at) ≡ false
    → is_free cell ≡ true → count_by is_free (set cells at cell) ≡ count_by is_free cells + 1
more_free cells at cell within was now =
    let sum = free_sum cells at cell within in
    let none = not_counted (cell_at cells at) was in
    let one = counted cell now in
    omega arith

pub as_free : (cells : List Cell) (at : ℕ) (cell : Cell) → at < length cells → is_free (cell_at cells at) ≡ true
    → is_free cell ≡ true → count_by is_free (set cells at cell) ≡ count_by is_free cells
as_free cells at cell within was now =
    let sum = free_sum cells at cell within in
    let before = counted (cell_at cells at) was in
    let one = counted cell now in
    omega arith

-- a search passes as many cells to what is at a position in lists of the same length
pub passed_along : (old new : List Cell) (i j to : ℕ) → length new ≡ length old → cell_at new i ≡ cell_at old j
    → passed new i to ≡ passed old j to
passed_along old new i j to count is =
    λ k. distance (count k) (home (count k) (is k).mixed) to

-- a row that is inserted at the first free cell from its home on
module _ (old new : List Cell) (mixed at pos : ℕ) (low : at < free) (found : AreFound old)
    (first : IsFirstFree old (home (length old) mixed) pos) (absent : (m : ℕ) → HasIn old m at → ⊥)
    (w : Writes old new pos (the_cell mixed at)) where
  held : Holds new mixed at pos
  held = record { cell = w.here; taken = low }

  taken_here : IsTaken (cell_at new pos)
  taken_here = taken_holds new mixed at pos held

  -- no row at another position has the number
  apart_from : (i : ℕ) → (cell_at old i).at ≡ at → ⊥
  apart_from i is = absent (cell_at old i).mixed (
    i,
    record {
      cell = ap (λ (a : ℕ). the_cell (cell_at old i).mixed a) is;
      taken = low;
    },
  )

  put_reached : (i e : ℕ) → IsTaken (cell_at new i) → e < length new → passed new i e < passed new i i → is_end (cell_at new e) ≡ false
  put_reached i e taken in_e less =
      elim (ℕ_discrete e pos) [
        | yes here ↦ taken_goes_on (cell_at new e) (subst (λ (x : ℕ). IsTaken (cell_at new x)) (sym here) taken_here)
        | no other ↦ ap is_end (w.others e other) ∙ (elim (ℕ_discrete i pos) [
          | yes this ↦
              let way : (to : ℕ) → passed new pos to ≡ distance (length old) (home (length old) mixed) to
              = λ to k. distance (w.count k) (home (w.count k) (w.here k).mixed) to in
              let at_pos : passed new pos e < passed new pos pos
              = subst (λ (x : ℕ). passed new x e < passed new x x) this less in
              let at_e = way e in
              let at_p = way pos in
              taken_goes_on (cell_at old e) (first.before e (subst (λ n. e < n) w.count in_e) (omega arith))
          | no that ↦
              let same = w.others i that in
              let at_e = passed_along old new i i e w.count same in
              let at_i = passed_along old new i i i w.count same in
              found.reached i e (subst (λ (c : Cell). IsTaken c) same taken) (subst (λ n. e < n) w.count in_e) (omega arith)
        ])
      ]

  put_once : (i j : ℕ) → IsTaken (cell_at new i) → (cell_at new i).at ≡ (cell_at new j).at → i ≡ j
  put_once i j taken same =
      elim (ℕ_discrete i pos) [
        | yes this ↦ elim (ℕ_discrete j pos) [
          | yes here ↦ this ∙ sym here
          | no other ↦ absurd (apart_from j (ap (λ (c : Cell). c.at) (sym (w.others j other)) ∙ sym same
              ∙ ap (λ (x : ℕ). (cell_at new x).at) this ∙ ap (λ (c : Cell). c.at) w.here))
        ]
        | no that ↦ elim (ℕ_discrete j pos) [
          | yes here ↦ absurd (apart_from i (ap (λ (c : Cell). c.at) (sym (w.others i that)) ∙ same
              ∙ ap (λ (x : ℕ). (cell_at new x).at) here ∙ ap (λ (c : Cell). c.at) w.here))
          | no other ↦ found.once i j (subst (λ (c : Cell). IsTaken c) (w.others i that) taken)
              (ap (λ (c : Cell). c.at) (sym (w.others i that)) ∙ same ∙ ap (λ (c : Cell). c.at) (w.others j other))
        ]
      ]

  pub put_found : AreFound new
  put_found = record { reached = put_reached; once = put_once }

  pub put_puts : Puts old new mixed at
  put_puts = record {
    here = (pos, held);
    kept = λ m a has.
        let other : has.0 ≢ pos = λ is. not_both (cell_at old pos) first.free
        (subst (λ (x : ℕ). IsTaken (cell_at old x)) is (taken_holds old m a has.0 has.1)) in
        (has.0, record { cell = w.others has.0 other ∙ has.1.cell; taken = has.1.taken });
    only = λ m a has. elim (ℕ_discrete has.0 pos) [
      | yes is ↦
          let same : the_cell m a ≡ the_cell mixed at = sym has.1.cell ∙ ap (cell_at new) is ∙ w.here in
          inr (ap (λ (c : Cell). c.mixed) same, ap (λ (c : Cell). c.at) same)
      | no other ↦ inl (has.0, record { cell = sym (w.others has.0 other) ∙ has.1.cell; taken = has.1.taken })
    ];
  }

  pub put_passing : Passing new mixed at (distance (length old) (home (length old) mixed) pos)
  put_passing = (pos, held, λ k. distance (sym w.count k) (home (sym w.count k) mixed) pos)

  pub put_within : distance (length old) (home (length old) mixed) pos < length old
  put_within =
      distance_within (length old) (home (length old) mixed) (home_within (length old) mixed (let in_pos = first.within in omega arith)) pos first.within

  pub put_near : (far longest : ℕ) → far ≡ distance (length old) (home (length old) mixed) pos → AreNear old longest
      → AreNear new (max longest (far + 1))
  put_near far longest is near = record {
    near = λ i taken. elim (ℕ_discrete i pos) [
      | yes this ↦
          let way : passed new i i ≡ distance (length old) (home (length old) mixed) pos
          = ap (λ (x : ℕ). passed new x x) this ∙ (λ k. distance (w.count k) (home (w.count k) (w.here k).mixed) pos) in
          omega (arith, clamps)
      | no that ↦
          let same = w.others i that in
          let way = passed_along old new i i i w.count same in
          let short = near.near i (subst (λ (c : Cell). IsTaken c) same taken) in
          omega (arith, clamps)
    ];
    within = let in_old = near.within in let in_new = put_within in let count = w.count in omega (arith, clamps);
  }
