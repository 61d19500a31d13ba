-- Cells: which are free, and what is read from them.
use Rattle.std.proofs.Common.{◌≡◌, ℕ, suc, ◌+◌, ◌<◌, Bool, true, false, cond, if◌then◌else◌, nat_le, List, [], ◌∷◌, length, get_or, sym, ap, subst, ◌∙◌, refl, arith, true≢false}
use borrow.Author.Tests.{leb-true, leb-false}
use native.Mathlib.Decide.{dec_lt}
use Rattle.std.specs.List.{count_by}
use Rattle.std.proofs.lemmas.List.{get_or_default, get_or_past}
use Rattle.std.proofs.lemmas.List.Sums.{sum_by-cons}
use Rattle.hash_index.specs.declared.cell.Cell.{Cell}
use Rattle.hash_index.specs.Cells.{free, free_cell, is_free, is_end, IsTaken, cell_at}
use Rattle.hash_index.specs.Index.{Holds}

abbrev pub the_cell : ℕ → ℕ → Cell
the_cell mixed at = record { mixed = mixed; at = at }

-- a row is in the cell, under a mixed hash
abbrev pub IsOf : Cell → ℕ → Type 0
IsOf cell mixed = IsTaken cell × (cell.mixed ≡ mixed)

pub taken_from : (c : Cell) → is_free c ≡ false → IsTaken c
taken_from c e = leb-false free c.at e

pub taken_is : (c : Cell) → IsTaken c → is_free c ≡ false
taken_is c t = by (is_free c) refl
  where
    by : (b : Bool) → is_free c ≡ b → b ≡ false
    by true e = let h = leb-true free c.at e in absurd (omega arith)
    by false e = refl

pub not_both : (c : Cell) → is_free c ≡ true → IsTaken c → ⊥
not_both c e t = true≢false (sym e ∙ taken_is c t)

-- searches go on past a row
pub taken_goes_on : (c : Cell) → IsTaken c → is_end c ≡ false
taken_goes_on c t = ap (λ b. if b then nat_le c.mixed 0 else false) (taken_is c t)

pub not_end : (c : Cell) → is_end c ≡ true → is_end c ≡ false → ⊥
not_end c e on = true≢false (sym e ∙ on)

-- a cell that is taken is within the list, since what is past the end reads as free
pub taken_within : (cells : List Cell) (i : ℕ) → IsTaken (cell_at cells i) → i < length cells
taken_within cells i t =
    elim (dec_lt i (length cells)) [
      | yes l ↦ l
      | no n ↦ absurd (let past = get_or_past cells i free_cell (omega arith) in omega (arith, ap (λ (c : Cell). c.at) past))
    ]

-- what is read within the list is the cell there, whatever the default
pub read : (cells : List Cell) (i : ℕ) (d : Cell) → i < length cells → get_or cells i d ≡ cell_at cells i
read cells i d within = get_or_default cells i d free_cell within

-- a row that is read is in the cells
pub holds_read : (cells : List Cell) (i : ℕ) (d : Cell) (mixed : ℕ) → i < length cells → IsOf (get_or cells i d) mixed
    → Holds cells mixed (get_or cells i d).at i
holds_read cells i d mixed within of = record {
  cell = sym (read cells i d within) ∙ ap (λ (m : ℕ). the_cell m (get_or cells i d).at) of.1;
  taken = of.0;
}

-- the cell where a row is, is taken
pub taken_holds : (cells : List Cell) (mixed at i : ℕ) → Holds cells mixed at i → IsTaken (cell_at cells i)
taken_holds cells mixed at i h = subst (λ (c : Cell). IsTaken c) (sym h.cell) h.taken

-- what a cell adds to the count of free cells
abbrev pub one_if : Bool → ℕ
one_if b = cond b 1 0

pub counted : (c : Cell) → is_free c ≡ true → one_if (is_free c) ≡ 1
counted c e = ap one_if e

pub not_counted : (c : Cell) → is_free c ≡ false → one_if (is_free c) ≡ 0
not_counted c e = ap one_if e

-- some cell is free if the count of free cells is above 0
abbrev pub HasFree : List Cell → Type 0
HasFree cells = (i : ℕ) × (i < length cells) × (is_free (cell_at cells i) ≡ true)

free_by : (c : Cell) (cs : List Cell) (b : Bool) → is_free c ≡ b → 0 < count_by is_free (c ∷ cs)
    → (0 < count_by is_free cs → HasFree cs) → HasFree (c ∷ cs)
free_by c cs true e some rest = (0, omega arith, e)
free_by c cs false e some rest =
    let sum : count_by is_free (c ∷ cs) ≡ one_if (is_free c) + count_by is_free cs
    = sum_by-cons (λ (x : Cell). one_if (is_free x)) c cs in
    let none = not_counted c e in
    let there = rest (omega arith) in
    (suc there.0, omega (arith, there.1), there.2)

pub free_there : (cells : List Cell) → 0 < count_by is_free cells → HasFree cells
free_there [] some = absurd (omega arith)
free_there (c ∷ cs) some = free_by c cs (is_free c) refl some (λ more. free_there cs more)
