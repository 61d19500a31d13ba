-- All rows inserted into new cells, one after the other.
use Rattle.std.proofs.Common.{◌≡◌, ℕ, zero, suc, ◌+◌, ◌*◌, ◌/◌, ◌<◌, ◌≤◌, max, inl, inr, true, List, ◌∷◌, length, drop, replicate, sym, ap, subst, refl, arith, length-drop, Result, Ok, Err}
use native.Mathlib.Decide.{dec_lt}
use Rattle.std.specs.List.{count_by}
use Rattle.std.specs.Ordering.{ord_max, nat_cmp}
use Rattle.std.specs.Result.{OnOk, OnErr}
use Rattle.std.proofs.lemmas.Bool.Decides.{nat_tests}
use Rattle.std.proofs.lemmas.List.{get_or-replicate, length-replicate, drop_all}
use Rattle.std.proofs.lemmas.List.Sums.{sum_by-cons, sum_by-drop_more, count_by-le-length}
use Rattle.hash_index.specs.declared.cell.Cell.{Cell}
use Rattle.hash_index.specs.Cells.{free, free_cell, is_free, IsTaken, cell_at}
use Rattle.hash_index.specs.Index.{cells, HasIn, Puts, AreMixed, AreSame}
use Rattle.hash_index.specs.Kept.{AreFound, AreNear}
use Rattle.hash_index.proofs.Cells.{the_cell, one_if, counted, not_counted, taken_within, taken_is, not_both, taken_holds}

-- ---- free cells
pub free_at : (n i : ℕ) → IsTaken (cell_at (replicate n free_cell) i) → ⊥
free_at n i taken =
    let within = taken_within (replicate n free_cell) i taken in
    let is : cell_at (replicate n free_cell) i ≡ free_cell
    = get_or-replicate n i free_cell free_cell (omega (arith, length-replicate n free_cell)) in
    let at = ap (λ (c : Cell). c.at) is in
    omega arith

pub found_free : (n : ℕ) → AreFound (replicate n free_cell)
found_free n = record {
  reached = λ i e t _ _. absurd (free_at n i t);
  once = λ i j t _. absurd (free_at n i t);
}

pub near_free : (n : ℕ) → AreNear (replicate n free_cell) 0
near_free n = record {
  near = λ i t. absurd (free_at n i t);
  within = omega arith;
}

pub all_free : (n : ℕ) → count_by is_free (replicate n free_cell) ≡ n
all_free zero = refl
all_free (suc n) =
    let sum : count_by is_free (free_cell ∷ replicate n free_cell) ≡ 1 + count_by is_free (replicate n free_cell)
    = sum_by-cons (λ (x : Cell). one_if (is_free x)) free_cell (replicate n free_cell) in
    omega (arith, all_free n)

-- ---- the rows so far
pub greater : (m n : ℕ) → ord_max nat_cmp m n ≡ max m n
greater m n = grind (arith, nat_tests)

free_behind : (old : List Cell) (i : ℕ) → i < length old
    → count_by is_free (drop i old) ≡ one_if (is_free (cell_at old i)) + count_by is_free (drop (i + 1) old)
free_behind old i within = sum_by-drop_more (λ (x : Cell). one_if (is_free x)) old i free_cell within

module _ (R : Cell → ℕ → Type 0) where
  pub record Mixing (old now : List Cell) (left longest i : ℕ) : Type 0 where
    pub found : AreFound now
    pub near : AreNear now longest
    pub within : i ≤ length old
    pub load : length now + left ≡ length now / 4 * 3 + count_by is_free now
    pub room : length old < i + left + count_by is_free (drop i old)
    pub kept : (j : ℕ) → j < i → IsTaken (cell_at old j) → (n : ℕ) × R (cell_at old j) n × HasIn now n (cell_at old j).at
    pub only : (n a : ℕ) → HasIn now n a → (j : ℕ) × (j < i) × ((cell_at old j).at ≡ a) × R (cell_at old j) n

  pub mixing_first : (old : List Cell) (count room : ℕ) → room ≡ count / 4 * 3 → length old < count / 4 * 3 + count_by is_free old
      → Mixing old (replicate count free_cell) room 0 0
  mixing_first old count room is enough = record {
    found = found_free count;
    near = near_free count;
    within = omega arith;
    load = omega (arith, all_free count, length-replicate count free_cell, ap (λ n. n / 4 * 3) (length-replicate count free_cell));
    room = omega arith;
    kept = λ j l _. absurd (omega arith);
    only = λ n a has. absurd (free_at count has.0 (taken_holds (replicate count free_cell) n a has.0 has.1));
  }

  module _ (old now : List Cell) (room longest i : ℕ) (s : Mixing old now room longest i) (within : i < length old) where
    -- a free cell has no row to insert
    pub mixing_skip : is_free (cell_at old i) ≡ true → Mixing old now room longest (i + 1)
    mixing_skip free =
        let sum = free_behind old i within in
        let one = counted (cell_at old i) free in
        let enough = s.room in
        record {
          found = s.found;
          near = s.near;
          within = omega arith;
          load = s.load;
          room = omega arith;
          kept = λ j l taken. elim (dec_lt j i) [
            | yes before ↦ s.kept j before taken
            | no n ↦ absurd (not_both (cell_at old i) free (subst (λ x. IsTaken (cell_at old x)) (let is : j ≡ i = omega arith in is) taken))
          ];
          only = λ n a has. let was = s.only n a has in (was.0, omega (arith, was.1), was.2, was.3);
        }

    module _ (taken : IsTaken (cell_at old i)) where
      pub mixing_room : 1 < room
      mixing_room =
          let sum = free_behind old i within in
          let none = not_counted (cell_at old i) (taken_is (cell_at old i) taken) in
          let most = count_by-le-length is_free (drop (i + 1) old) in
          let rest = length-drop (i + 1) old in
          let enough = s.room in
          omega arith

      pub mixing_free : 0 < count_by is_free now
      mixing_free = let room = mixing_room in let load = s.load in omega arith

      pub mixing_absent : AreFound old → (m : ℕ) → HasIn now m (cell_at old i).at → ⊥
      mixing_absent found m has =
          let was = s.only m (cell_at old i).at has in
          let same = found.once i was.0 taken (sym was.2) in
          let before = was.1 in
          omega arith

      pub mixing_put : (new : List Cell) (mixed left further : ℕ) → R (cell_at old i) mixed → AreFound new → AreNear new further
          → Puts now new mixed (cell_at old i).at → count_by is_free new + 1 ≡ count_by is_free now → length new ≡ length now
          → left + 1 ≡ room → Mixing old new left further (i + 1)
      mixing_put new mixed left further allowed found near puts fewer count one =
          let sum = free_behind old i within in
          let none = not_counted (cell_at old i) (taken_is (cell_at old i) taken) in
          let enough = s.room in
          let load = s.load in
          let quarters = ap (λ n. n / 4 * 3) count in
          record {
            found = found;
            near = near;
            within = omega arith;
            load = omega arith;
            room = omega arith;
            kept = λ j l t. elim (dec_lt j i) [
              | yes before ↦ let had = s.kept j before t in (had.0, had.1, puts.kept had.0 (cell_at old j).at had.2)
              | no n ↦
                  let is : i ≡ j = omega arith in
                  let P : ℕ → Type 0 = λ x. (n : ℕ) × R (cell_at old x) n × HasIn new n (cell_at old x).at in
                  subst P is (mixed, allowed, puts.here)
            ];
            only = λ n a has. elim (puts.only n a has) [
              | inl before ↦ let was = s.only n a before in (was.0, omega (arith, was.1), was.2, was.3)
              | inr this ↦ (i, omega arith, sym this.1, subst (R (cell_at old i)) (sym this.0) allowed)
            ];
          }

  module _ (old now : List Cell) (room longest i : ℕ) (s : Mixing old now room longest i) (over : length old ≤ i) where
    pub mixing_last : AreMixed (λ m a n. R (the_cell m a) n) old now
    mixing_last = record {
      kept = λ m a has.
          let taken = taken_holds old m a has.0 has.1 in
          let within = taken_within old has.0 taken in
          let had = s.kept has.0 (omega arith) taken in
          (had.0, subst (λ (c : Cell). R c had.0) has.1.cell had.1, subst (λ (c : Cell). HasIn now had.0 c.at) has.1.cell had.2);
      only = λ n a has.
          let was = s.only n a has in
          let is : cell_at old was.0 ≡ the_cell (cell_at old was.0).mixed a = ap (λ (x : ℕ). the_cell (cell_at old was.0).mixed x) was.2 in
          ((cell_at old was.0).mixed, subst (λ (c : Cell). R c n) is was.3, (was.0, record { cell = is; taken = has.1.taken }));
    }

    pub mixing_left : 0 < room
    mixing_left =
        let none : count_by is_free (drop i old) ≡ 0 = ap (count_by is_free) (drop_all i old over) in
        let enough = s.room in
        let whole = s.within in
        omega arith

-- ---- what the closure returned
mixed_weaker : (R S : ℕ → ℕ → ℕ → Type 0) (old new : List Cell) → AreMixed R old new → ((m a n : ℕ) → R m a n → S m a n) → AreMixed S old new
mixed_weaker R S old new mixed by = record {
  kept = λ m a has. let to = mixed.kept m a has in (to.0, by m a to.0 to.1, to.2);
  only = λ n a has. let was = mixed.only n a has in (was.0, by was.0 a n was.1, was.2);
}

mixed_same : (R : ℕ → ℕ → ℕ → Type 0) (old new : List Cell) → AreMixed R old new → ((m a n : ℕ) → R m a n → n ≡ m) → AreSame old new
mixed_same R old new mixed by = record {
  kept = λ m a has. let to = mixed.kept m a has in subst (λ x. HasIn new x a) (by m a to.0 to.1) to.2;
  only = λ n a has. let was = mixed.only n a has in subst (λ x. HasIn old x a) (sym (by was.0 a n was.1)) was.2;
}

module _ {X E : Type 0} (r : Result X E) where
  pub mixed_by : (S R : ℕ → ℕ → ℕ → Type 0) (old new : List Cell) → OnOk r (AreMixed R old new)
      → ((m a n : ℕ) → R m a n → S m a n) → OnOk r (AreMixed S old new)
  mixed_by S R old new mixed by = on r mixed
    where
      on : (q : Result X E) → OnOk q (AreMixed R old new) → OnOk q (AreMixed S old new)
      on (Ok x) m = mixed_weaker R S old new m by
      on (Err e) m = tt

  pub same_by : (before after : List Cell × ℕ) {R : ℕ → ℕ → ℕ → Type 0} → OnOk r (AreMixed R (cells before) (cells after))
      → OnErr r (after ≡ before) → ((m a n : ℕ) → R m a n → n ≡ m) → AreSame (cells before) (cells after)
  same_by before after {R} mixed refused by = on r mixed refused
    where
      on : (q : Result X E) → OnOk q (AreMixed R (cells before) (cells after)) → OnErr q (after ≡ before) → AreSame (cells before) (cells after)
      on (Ok x) m e = mixed_same R (cells before) (cells after) m by
      on (Err x) m e = record {
        kept = λ n a has. subst (λ (v : List Cell × ℕ). HasIn (cells v) n a) (sym e) has;
        only = λ n a has. subst (λ (v : List Cell × ℕ). HasIn (cells v) n a) e has;
      }
