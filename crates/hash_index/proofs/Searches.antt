-- How far a search has come.
use Rattle.std.proofs.Common.{◌≡◌, ℕ, ◌+◌, ◌<◌, ◌≤◌, true, List, length, sym, ap, subst, ◌∙◌, arith}
use native.Mathlib.Decide.{dec_lt}
use Rattle.hash_index.specs.declared.cell.Cell.{Cell}
use Rattle.hash_index.specs.Cells.{is_free, is_end, IsTaken, cell_at, IsNext, distance, home}
use Rattle.hash_index.specs.Index.{HasIn}
use Rattle.hash_index.specs.Kept.{AreFound, AreNear, IsFirstFree}
use Rattle.hash_index.proofs.Distances.{distance_self, distance_within, distance_one, distance_next, next_within}
use Rattle.hash_index.proofs.Cells.{IsOf, taken_within, taken_goes_on, not_both, not_end}

-- P holds of the cells that were passed
module _ (P : Cell → Type 0) where
  pub record Missed (cells : List Cell) (start passed pos : ℕ) : Type 0 where
    pub within : pos < length cells
    pub far : passed < length cells → distance (length cells) start pos ≡ passed
    pub missed : (e : ℕ) → e < length cells → distance (length cells) start e < passed → P (cell_at cells e)

  module _ (cells : List Cell) (start : ℕ) (in_start : start < length cells) where
    pub missed_start : Missed cells start 0 start
    missed_start = record {
      within = in_start;
      far = λ _. distance_self (length cells) start in_start;
      missed = λ e _ l. absurd (omega arith);
    }

    module _ (passed pos : ℕ) (s : Missed cells start passed pos) (on : passed < length cells) where
      here_or_before : (e : ℕ) → e < length cells → distance (length cells) start e < passed + 1
          → (distance (length cells) start e < passed → ⊥) → pos ≡ e
      here_or_before e in_e l n =
          distance_one (length cells) start in_start pos e s.within in_e (let f = s.far on in omega arith)

      pub missed_next : (to : ℕ) → P (cell_at cells pos) → IsNext (length cells) pos to → Missed cells start (passed + 1) to
      missed_next to miss next = record {
        within = next_within (length cells) pos to next;
        far = λ l. let f = s.far on in distance_next (length cells) start in_start pos to s.within next (omega arith) ∙ ap (λ n. n + 1) f;
        missed = λ e in_e l. elim (dec_lt (distance (length cells) start e) passed) [
          | yes p ↦ s.missed e in_e p
          | no n ↦ subst (λ i. P (cell_at cells i)) (here_or_before e in_e l n) miss
        ];
      }

module _ (cells : List Cell) (start : ℕ) (in_start : start < length cells) where
  -- the first free cell, after cells that are all taken
  module _ (passed pos : ℕ) (s : Missed IsTaken cells start passed pos) where
    pub first_free : passed < length cells → is_free (cell_at cells pos) ≡ true → IsFirstFree cells start pos
    first_free on free = record {
      within = s.within;
      free = free;
      before = λ e in_e l. s.missed e in_e (let f = s.far on in omega arith);
    }

    -- if a search has passed all cells, none is free
    pub none_free : length cells ≤ passed → (e : ℕ) → e < length cells → is_free (cell_at cells e) ≡ true → ⊥
    none_free over e in_e free =
        let far = distance_within (length cells) start in_start e in_e in
        not_both (cell_at cells e) free (s.missed e in_e (omega arith))

  -- M holds of the rows under a mixed hash that were passed
  module _ (M : ℕ → Type 0) (mixed : ℕ) (begins : start ≡ home (length cells) mixed) where
    abbrev pub MissedRow : Cell → Type 0
    MissedRow cell = IsOf cell mixed → M cell.at

    module _ (at : ℕ) (has : HasIn cells mixed at) where
      row_taken : IsTaken (cell_at cells has.0)
      row_taken = subst (λ (c : Cell). IsTaken c) (sym has.1.cell) has.1.taken

      row_within : has.0 < length cells
      row_within = taken_within cells has.0 row_taken

      row_is : (cell_at cells has.0).mixed ≡ mixed
      row_is = ap (λ (c : Cell). c.mixed) has.1.cell

      row_from : home (length cells) (cell_at cells has.0).mixed ≡ start
      row_from = ap (home (length cells)) row_is ∙ sym begins

      row_missed : MissedRow (cell_at cells has.0) → M at
      row_missed miss = subst M (ap (λ (c : Cell). c.at) has.1.cell) (miss (row_taken, row_is))

    module _ (passed pos : ℕ) (s : Missed MissedRow cells start passed pos) where
      -- a search that ends has missed all rows under the mixed hash
      pub missed_at_end : passed < length cells → AreFound cells → is_end (cell_at cells pos) ≡ true
          → (at : ℕ) → HasIn cells mixed at → M at
      missed_at_end on found ends at has =
          let i = has.0 in
          let taken = row_taken at has in
          elim (dec_lt (distance (length cells) start i) passed) [
            | yes p ↦ row_missed at has (s.missed i (row_within at has) p)
            | no n ↦ absurd (elim (dec_lt (distance (length cells) start pos) (distance (length cells) start i)) [
              | yes q ↦ not_end (cell_at cells pos) ends (found.reached i pos taken s.within
                  (subst (λ h. distance (length cells) h pos < distance (length cells) h i) (sym (row_from at has)) q))
              | no r ↦
                  let f = s.far on in
                  let same = distance_one (length cells) start in_start pos i s.within (row_within at has) (omega arith) in
                  not_end (cell_at cells pos) ends
                  (taken_goes_on (cell_at cells pos) (subst (λ j. IsTaken (cell_at cells j)) (sym same) taken))
            ])
          ]

      -- a search as long as the longest for a row has missed all rows under the mixed hash
      pub missed_all : (longest : ℕ) → longest ≤ passed → AreNear cells longest → (at : ℕ) → HasIn cells mixed at → M at
      missed_all longest over near at has =
          let i = has.0 in
          let short : distance (length cells) start i < longest
          = subst (λ h. distance (length cells) h i < longest) (row_from at has) (near.near i (row_taken at has)) in
          row_missed at has (s.missed i (row_within at has) (omega arith))
