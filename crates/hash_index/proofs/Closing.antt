-- The hole that a removed row leaves, and the rows that move into it.
use Rattle.std.proofs.Common.{◌≡◌, ◌≢◌, ℕ, ◌+◌, ◌<◌, ◌≤◌, ◌⊎◌, inl, inr, min, true, false, List, length, set, sym, ap, subst, ◌∙◌, refl, arith}
use native.Mathlib.Decide.{ℕ_discrete, dec_lt}
use Rattle.std.specs.List.{count_by}
use Rattle.std.proofs.lemmas.Int.{clamps}
use Rattle.hash_index.specs.declared.cell.Cell.{Cell}
use Rattle.hash_index.specs.Cells.{free, free_cell, tombstone, is_free, is_end, IsTaken, cell_at, IsNext, distance, home, passed}
use Rattle.hash_index.specs.Index.{Takes}
use Rattle.hash_index.specs.Kept.{AreFound, AreMoved, AreNear, IsFilled, moved}
use Rattle.hash_index.proofs.Cells.{taken_within, taken_is, taken_goes_on, not_end, taken_holds}
use Rattle.hash_index.proofs.Distances.{apart, home_within, distance_self, distance_one, distance_next, next_within}
use Rattle.hash_index.proofs.Writes.{Writes, writes_set, fewer_free, more_free, as_free, passed_along}

-- the number of cells that a search passes, among n cells
abbrev pub way : ℕ → List Cell → ℕ → ℕ → ℕ
way n cells i to = distance n (home n (cell_at cells i).mixed) to

-- what is less than the minimum of two numbers is less than the first
pub lesser : (n most looked end : ℕ) → end ≡ min n most → looked < end → looked < n
lesser n most looked end is less = omega (arith, clamps)

-- ---- distances alone
module _ (n : ℕ) where
  -- the distance to another position is above 0
  pub away : (from to : ℕ) → from < n → to < n → to ≢ from → 0 < distance n from to
  away from to in_from in_to other =
      elim (dec_lt 0 (distance n from to)) [
        | yes l ↦ l
        | no z ↦ absurd (other (sym (distance_one n from in_from from to in_from in_to
            (let self = distance_self n from in_from in omega arith))))
      ]

  -- what follows the hole by less than the row does is on the path from the hole to the row
  pub between : (start hole pos i : ℕ) → start < n → hole < n → pos < n → i < n
      → distance n start hole < distance n start i → distance n hole pos < distance n hole i
      → distance n start pos < distance n start i
  between start hole pos i in_start in_hole in_pos in_i first less =
      let a = apart n start hole in_start in
      let b = apart n start i in_start in
      let c = apart n start pos in_start in
      let d = apart n hole pos in_hole in
      let e = apart n hole i in_hole in
      omega arith

  -- a position on the path to another is at least as far before it as the two are apart
  pub on_the_way : (start hole i : ℕ) → start < n → hole < n → i < n → distance n start hole < distance n start i
      → distance n hole i ≤ distance n start i
  on_the_way start hole i in_start in_hole in_i first =
      let a = apart n start hole in_start in
      let b = apart n start i in_start in
      let c = apart n hole i in_hole in
      omega arith

  -- a search reaches the hole first if it passes at least as many cells as the hole is before the position
  module _ (start hole pos : ℕ) (in_start : start < n) (in_hole : hole < n) (in_pos : pos < n) where
    pub comes_first : 0 < distance n hole pos → distance n hole pos ≤ distance n start pos → distance n start hole < distance n start pos
    comes_first some far =
        let a = apart n start hole in_start in
        let b = apart n start pos in_start in
        let c = apart n hole pos in_hole in
        omega arith

    pub comes_not : distance n start pos < distance n hole pos → distance n start pos ≤ distance n start hole
    comes_not near =
        let a = apart n start hole in_start in
        let b = apart n start pos in_start in
        let c = apart n hole pos in_hole in
        omega arith

-- ---- where a row was before
pub moved_whole : (cells new : List Cell) (gone : ℕ) (cell : Cell) → Writes cells new gone cell → (IsTaken cell → ⊥) → AreMoved cells new gone
moved_whole cells new gone cell w empty = record {
  kept = λ j other taken. (j, w.others j other);
  was = λ i taken.
      let other : i ≢ gone = λ is. empty (subst (λ (c : Cell). IsTaken c) (ap (cell_at new) is ∙ w.here) taken) in
      (i, other, w.others i other);
}

-- what is removed is no longer there, and all else is
pub takes_from : (old new : List Cell) (pos at : ℕ) → AreFound old → IsTaken (cell_at old pos) → (cell_at old pos).at ≡ at
    → AreMoved old new pos → Takes old new at
takes_from old new pos at found taken is moved = record {
  gone = λ m has.
      let was = moved.was has.0 (taken_holds new m at has.0 has.1) in
      was.1 (sym (found.once pos was.0 taken (is ∙ sym (ap (λ (c : Cell). c.at) (sym was.2 ∙ has.1.cell)))));
  kept = λ m a other has.
      let elsewhere : has.0 ≢ pos = λ e. other (sym (ap (λ (c : Cell). c.at) has.1.cell) ∙ ap (λ (x : ℕ). (cell_at old x).at) e ∙ is) in
      let to = moved.kept has.0 elsewhere (taken_holds old m a has.0 has.1) in
      (to.0, record { cell = to.1 ∙ has.1.cell; taken = has.1.taken });
  only = λ m a has.
      let was = moved.was has.0 (taken_holds new m a has.0 has.1) in
      (was.0, record { cell = sym was.2 ∙ has.1.cell; taken = has.1.taken });
}

-- ---- how far the walk from the hole has come
pub record Closes (n longest : ℕ) (old now : List Cell) (gone hole pos looked : ℕ) : Type 0 where
  pub count : length now ≡ n
  pub in_gone : gone < n
  pub in_hole : hole < n
  pub in_pos : pos < n
  pub empty : cell_at now hole ≡ tombstone
  pub hole_before : distance n gone hole < looked
  pub far : looked < n → distance n gone pos ≡ looked
  pub found : AreFound now
  pub near : AreNear now longest
  -- rows whose search reaches the hole first are at least as far after it as the walk is
  pub behind : looked < n → (i : ℕ) → IsTaken (cell_at now i) → way n now i hole < way n now i i
      → distance n hole pos ≤ distance n hole i
  pub moved : AreMoved old now gone
  pub freed : count_by is_free now ≡ count_by is_free old + 1

no_row : IsTaken tombstone → ⊥
no_row t = omega arith

no_row_free : IsTaken free_cell → ⊥
no_row_free t = omega arith

-- rows are still found if a cell without a row is written at a position that no search for another row passes, or past
-- which searches go on
module _ (cells new : List Cell) (at : ℕ) (cell : Cell) (w : Writes cells new at cell) (empty : IsTaken cell → ⊥) where
  emptied_apart : (i : ℕ) → IsTaken (cell_at new i) → i ≢ at
  emptied_apart i t is = empty (subst (λ (c : Cell). IsTaken c) (ap (cell_at new) is ∙ w.here) t)

  emptied_was : (i : ℕ) → IsTaken (cell_at new i) → IsTaken (cell_at cells i)
  emptied_was i t = subst (λ (c : Cell). IsTaken c) (w.others i (emptied_apart i t)) t

  emptied_way : (i to : ℕ) → IsTaken (cell_at new i) → passed new i to ≡ passed cells i to
  emptied_way i to t = passed_along cells new i i to w.count (w.others i (emptied_apart i t))

  pub emptied_found : AreFound cells
      → ((i : ℕ) → IsTaken (cell_at cells i) → passed cells i at < passed cells i i → is_end cell ≡ false) → AreFound new
  emptied_found found goes_on = record {
    reached = λ i e t in_e less.
        let at_e = emptied_way i e t in
        let at_i = emptied_way i i t in
        elim (ℕ_discrete e at) [
          | yes is ↦
              let way_to = emptied_way i at t in
              let less_at : passed new i at < passed new i i = subst (λ x. passed new i x < passed new i i) is less in
              ap is_end (ap (cell_at new) is ∙ w.here) ∙ goes_on i (emptied_was i t) (omega arith)
          | no other ↦ ap is_end (w.others e other)
              ∙ found.reached i e (emptied_was i t) (subst (λ n. e < n) w.count in_e) (omega arith)
        ];
    once = λ i j t same.
        let apart_j : j ≢ at = emptied_apart j (subst (λ (a : ℕ). a < free) same t) in
        found.once i j (emptied_was i t)
        (ap (λ (c : Cell). c.at) (sym (w.others i (emptied_apart i t))) ∙ same ∙ ap (λ (c : Cell). c.at) (w.others j apart_j));
  }

  pub emptied_near : (longest : ℕ) → AreNear cells longest → AreNear new longest
  emptied_near longest near = record {
    near = λ i t.
        let at_i = emptied_way i i t in
        let before = near.near i (emptied_was i t) in
        omega arith;
    within = subst (λ n. longest ≤ n) (sym w.count) near.within;
  }

-- the walk begins at the cell after the one that is removed
pub closes_first : (n longest : ℕ) (old : List Cell) (gone to : ℕ) → length old ≡ n → IsTaken (cell_at old gone)
    → AreFound old → AreNear old longest → IsNext n gone to → Closes n longest old (set old gone tombstone) gone gone to 1
closes_first n longest old gone to count taken found near next =
    let in_old : gone < length old = taken_within old gone taken in
    let in_gone : gone < n = subst (λ k. gone < k) count in_old in
    let w = writes_set old gone tombstone in_old in
    let now = set old gone tombstone in
    let self = distance_self n gone in_gone in
    record {
      count = w.count ∙ count;
      in_gone = in_gone;
      in_hole = in_gone;
      in_pos = next_within n gone to next;
      empty = w.here;
      hole_before = omega arith;
      far = λ some. distance_next n gone in_gone gone to in_gone next (omega arith) ∙ ap (λ d. d + 1) self;
      found = emptied_found old now gone tombstone w no_row found (λ _ _ _. refl);
      near = emptied_near old now gone tombstone w no_row longest near;
      behind = λ some i t first.
          let in_i : i < n = subst (λ k. i < k) (w.count ∙ count) (taken_within now i t) in
          let step = distance_next n gone in_gone gone to in_gone next (omega arith) in
          let on = away n gone i in_gone in_i (emptied_apart old now gone tombstone w no_row i t) in
          omega arith;
      moved = moved_whole old now gone tombstone w no_row;
      freed = more_free old gone tombstone in_old (taken_is (cell_at old gone) taken) refl;
    }

module _ (n longest : ℕ) (old now : List Cell) (gone hole pos looked : ℕ) (s : Closes n longest old now gone hole pos looked) where
  open_hole : (i : ℕ) → IsTaken (cell_at now i) → i ≢ hole
  open_hole i t is = no_row (subst (λ (c : Cell). IsTaken c) (ap (cell_at now) is ∙ s.empty) t)

  in_now : (i : ℕ) → IsTaken (cell_at now i) → i < n
  in_now i t = subst (λ k. i < k) s.count (taken_within now i t)

  -- the length of a search, among the same number of cells
  as_passed : (i x : ℕ) → way n now i x ≡ way (length now) now i x
  as_passed i x = λ k. distance (sym s.count k) (home (sym s.count k) (cell_at now i).mixed) x

  -- the result of the walk if no search reaches the hole first
  module _ (none : (i : ℕ) → IsTaken (cell_at now i) → way n now i hole < way n now i i → ⊥) where
    freed_hole : Writes now (set now hole free_cell) hole free_cell
    freed_hole = writes_set now hole free_cell (subst (λ k. hole < k) (sym s.count) s.in_hole)

    pub closed_found : AreFound (set now hole free_cell)
    closed_found = emptied_found now (set now hole free_cell) hole free_cell freed_hole no_row_free s.found
        (λ i t first. absurd (none i t (let to_hole = as_passed i hole in let to_row = as_passed i i in omega arith)))

    pub closed_near : AreNear (set now hole free_cell) longest
    closed_near = emptied_near now (set now hole free_cell) hole free_cell freed_hole no_row_free longest s.near

    pub closed_moved : AreMoved old (set now hole free_cell) gone
    closed_moved = record {
      kept = λ j other t.
          let was = s.moved.kept j other t in
          let there : IsTaken (cell_at now was.0) = subst (λ (c : Cell). IsTaken c) (sym was.1) t in
          (was.0, freed_hole.others was.0 (open_hole was.0 there) ∙ was.1);
      was = λ i t.
          let apart_i = emptied_apart now (set now hole free_cell) hole free_cell freed_hole no_row_free i t in
          let same = freed_hole.others i apart_i in
          let b = s.moved.was i (subst (λ (c : Cell). IsTaken c) same t) in
          (b.0, b.1, same ∙ b.2);
    }

    pub closed_free : count_by is_free (set now hole free_cell) ≡ count_by is_free old + 1
    closed_free = as_free now hole free_cell (subst (λ k. hole < k) (sym s.count) s.in_hole) (ap is_free s.empty) refl ∙ s.freed

  module _ (on : looked < n) where
    -- the walk is ahead of the hole
    ahead : (0 < distance n hole pos) × (distance n hole pos ≤ looked)
    ahead =
        let to_hole = apart n gone hole s.in_gone in
        let to_pos = apart n gone pos s.in_gone in
        let between = apart n hole pos s.in_hole in
        let in_hole = s.in_hole in
        let in_pos = s.in_pos in
        let far = s.far on in
        let before = s.hole_before in
        (omega arith, omega arith)

    pub some_ahead : 0 < distance (length now) hole pos
    some_ahead = subst (λ k. 0 < distance k hole pos) (sym s.count) ahead.0

    hole_apart : pos ≢ hole
    hole_apart is =
        let self = distance_self n hole s.in_hole in
        let far = ap (distance n hole) is in
        let some = ahead.0 in
        omega arith

    -- any other position at least as far from the hole is further
    further : (i : ℕ) → i < n → i ≢ pos → distance n hole pos ≤ distance n hole i → distance n hole pos < distance n hole i
    further i in_i other least = elim (dec_lt (distance n hole pos) (distance n hole i)) [
      | yes l ↦ l
      | no m ↦ absurd (other (sym (distance_one n hole s.in_hole pos i s.in_pos in_i (omega arith))))
    ]

    -- no search reaches the hole first if searches end at the position that the walk has come to
    pub none_past_end : is_end (cell_at now pos) ≡ true → (i : ℕ) → IsTaken (cell_at now i) → way n now i hole < way n now i i → ⊥
    none_past_end ends i t first =
        let i_in = in_now i t in
        let start : ℕ = home n (cell_at now i).mixed in
        let in_start = home_within n (cell_at now i).mixed (omega arith) in
        let other : i ≢ pos = λ same. not_end (cell_at now pos) ends
        (taken_goes_on (cell_at now pos) (subst (λ x. IsTaken (cell_at now x)) same t)) in
        let more = further i i_in other (s.behind on i t first) in
        let passes = between n start hole pos i in_start s.in_hole s.in_pos i_in first more in
        let by_pos = as_passed i pos in
        let by_i = as_passed i i in
        not_end (cell_at now pos) ends (s.found.reached i pos t (subst (λ k. pos < k) (sym s.count) s.in_pos) (omega arith))

    -- no search reaches the hole first if the walk is as far past the hole as the longest search goes
    pub none_so_far : longest ≤ distance n hole pos → (i : ℕ) → IsTaken (cell_at now i) → way n now i hole < way n now i i → ⊥
    none_so_far far i t first =
        let i_in = in_now i t in
        let in_start = home_within n (cell_at now i).mixed (omega arith) in
        let behind = s.behind on i t first in
        let by_i = as_passed i i in
        let less = s.near.near i t in
        let way_to = on_the_way n (home n (cell_at now i).mixed) hole i in_start s.in_hole i_in first in
        omega arith

    module _ (to : ℕ) (next : IsNext n pos to) where
      go_on : looked + 1 < n → distance n gone to ≡ looked + 1
      go_on more =
          let far = s.far on in
          distance_next n gone s.in_gone pos to s.in_pos next (omega arith) ∙ ap (λ d. d + 1) far

      -- what is at pos stays, since no search for it reaches the hole first
      pub closes_stays : (IsTaken (cell_at now pos) → way n now pos pos ≤ way n now pos hole)
          → Closes n longest old now gone hole to (looked + 1)
      closes_stays stays = record {
        count = s.count;
        in_gone = s.in_gone;
        in_hole = s.in_hole;
        in_pos = next_within n pos to next;
        empty = s.empty;
        hole_before = let before = s.hole_before in omega arith;
        far = go_on;
        found = s.found;
        near = s.near;
        behind = λ more i t first.
            let least = s.behind on i t first in
            let near = ahead.1 in
            let step : distance n hole to ≡ distance n hole pos + 1 = distance_next n hole s.in_hole pos to s.in_pos next (omega arith) in
            let other : i ≢ pos = λ is.
            let at : way n now pos hole < way n now pos pos = subst (λ x. way n now x hole < way n now x x) is first in
            let no_more = stays (subst (λ x. IsTaken (cell_at now x)) is t) in
            omega arith in
            let over = further i (in_now i t) other least in
            omega arith;
        moved = s.moved;
        freed = s.freed;
      }

      -- the row at pos moves into the hole
      module _ (taken : IsTaken (cell_at now pos)) (moves : way n now pos hole < way n now pos pos) where
        abbrev pub half : List Cell
        half = set now hole (cell_at now pos)

        abbrev pub new : List Cell
        new = set half pos tombstone

        first_write : Writes now half hole (cell_at now pos)
        first_write = writes_set now hole (cell_at now pos) (subst (λ k. hole < k) (sym s.count) s.in_hole)

        last_write : Writes half new pos tombstone
        last_write = writes_set half pos tombstone (subst (λ k. pos < k) (sym (first_write.count ∙ s.count)) s.in_pos)

        as_many : length new ≡ length now
        as_many = last_write.count ∙ first_write.count

        at_hole : cell_at new hole ≡ cell_at now pos
        at_hole = last_write.others hole (λ is. hole_apart (sym is)) ∙ first_write.here

        elsewhere : (i : ℕ) → i ≢ pos → i ≢ hole → cell_at new i ≡ cell_at now i
        elsewhere i apart_pos apart_hole = last_write.others i apart_pos ∙ first_write.others i apart_hole

        not_pos : (i : ℕ) → IsTaken (cell_at new i) → i ≢ pos
        not_pos i t is = no_row (subst (λ (c : Cell). IsTaken c) (ap (cell_at new) is ∙ last_write.here) t)

        -- where what is now at a position was before
        stood : (i : ℕ) → IsTaken (cell_at new i) → (j : ℕ) × IsTaken (cell_at now j) × (cell_at new i ≡ cell_at now j)
            × (((i ≡ hole) × (j ≡ pos)) ⊎ ((i ≢ hole) × (j ≡ i)))
        stood i t = elim (ℕ_discrete i hole) [
          | yes is ↦ (pos, taken, ap (cell_at new) is ∙ at_hole, inl (is, refl))
          | no other ↦
              let same = elsewhere i (not_pos i t) other in
              (i, subst (λ (c : Cell). IsTaken c) same t, same, inr (other, refl))
        ]

        new_reached : (i e : ℕ) → IsTaken (cell_at new i) → e < length new → passed new i e < passed new i i
            → is_end (cell_at new e) ≡ false
        new_reached i e t in_e less = elim (ℕ_discrete e pos) [
          | yes at_pos ↦ ap is_end (ap (cell_at new) at_pos ∙ last_write.here)
          | no apart_pos ↦ elim (ℕ_discrete e hole) [
            | yes here ↦ ap is_end (ap (cell_at new) here ∙ at_hole) ∙ taken_goes_on (cell_at now pos) taken
            | no other ↦ ap is_end (elsewhere e apart_pos other) ∙ elim (ℕ_discrete i hole) [
              | yes this ↦
                  let by : (x : ℕ) → passed new i x ≡ passed now pos x
                  = λ x. passed_along now new i pos x as_many (ap (cell_at new) this ∙ at_hole) in
                  let by_e = by e in
                  let by_hole = by i ∙ ap (passed now pos) this in
                  let to_hole = as_passed pos hole in
                  let to_pos = as_passed pos pos in
                  s.found.reached pos e taken (subst (λ k. e < k) as_many in_e) (omega arith)
              | no that ↦
                  let same = elsewhere i (not_pos i t) that in
                  let by_e = passed_along now new i i e as_many same in
                  let by_i = passed_along now new i i i as_many same in
                  s.found.reached i e (subst (λ (c : Cell). IsTaken c) same t) (subst (λ k. e < k) as_many in_e) (omega arith)
            ]
          ]
        ]

        new_once : (i j : ℕ) → IsTaken (cell_at new i) → (cell_at new i).at ≡ (cell_at new j).at → i ≡ j
        new_once i j t same =
            let a = stood i t in
            let b = stood j (subst (λ (x : ℕ). x < free) same t) in
            let one : a.0 ≡ b.0 = s.found.once a.0 b.0 a.1 (ap (λ (c : Cell). c.at) (sym a.2) ∙ same ∙ ap (λ (c : Cell). c.at) b.2) in
            elim a.3 [
              | inl u ↦ elim b.3 [
                | inl v ↦ u.0 ∙ sym v.0
                | inr v ↦ absurd (not_pos j (subst (λ (x : ℕ). x < free) same t) (sym v.1 ∙ sym one ∙ u.1))
              ]
              | inr u ↦ elim b.3 [
                | inl v ↦ absurd (not_pos i t (sym u.1 ∙ one ∙ v.1))
                | inr v ↦ sym u.1 ∙ one ∙ v.1
              ]
            ]

        new_near : AreNear new longest
        new_near = record {
          near = λ i t. elim (ℕ_discrete i hole) [
            | yes this ↦
                let by : passed new i i ≡ passed now pos hole
                = passed_along now new i pos i as_many (ap (cell_at new) this ∙ at_hole) ∙ ap (passed now pos) this in
                let to_hole = as_passed pos hole in
                let to_pos = as_passed pos pos in
                let less = s.near.near pos taken in
                omega arith
            | no that ↦
                let same = elsewhere i (not_pos i t) that in
                let by = passed_along now new i i i as_many same in
                let less = s.near.near i (subst (λ (c : Cell). IsTaken c) same t) in
                omega arith
          ];
          within = subst (λ k. longest ≤ k) (sym as_many) s.near.within;
        }

        new_moved : AreMoved old new gone
        new_moved = record {
          kept = λ j other t.
              let was = s.moved.kept j other t in
              let there : IsTaken (cell_at now was.0) = subst (λ (c : Cell). IsTaken c) (sym was.1) t in
              elim (ℕ_discrete was.0 pos) [
                | yes is ↦ (hole, at_hole ∙ ap (cell_at now) (sym is) ∙ was.1)
                | no apart_pos ↦ (was.0, elsewhere was.0 apart_pos (open_hole was.0 there) ∙ was.1)
              ];
          was = λ i t.
              let a = stood i t in
              let b = s.moved.was a.0 a.1 in
              (b.0, b.1, a.2 ∙ b.2);
        }

        new_freed : count_by is_free new ≡ count_by is_free old + 1
        new_freed =
            let less = fewer_free now hole (cell_at now pos) (subst (λ k. hole < k) (sym s.count) s.in_hole)
            (ap is_free s.empty) (taken_is (cell_at now pos) taken) in
            let as_was : cell_at half pos ≡ cell_at now pos = first_write.others pos hole_apart in
            let more = more_free half pos tombstone (subst (λ k. pos < k) (sym (first_write.count ∙ s.count)) s.in_pos)
            (ap is_free as_was ∙ taken_is (cell_at now pos) taken) refl in
            let freed = s.freed in
            omega arith

        pub closes_moves : Closes n longest old new gone pos to (looked + 1)
        closes_moves = record {
          count = as_many ∙ s.count;
          in_gone = s.in_gone;
          in_hole = s.in_pos;
          in_pos = next_within n pos to next;
          empty = last_write.here;
          hole_before = let far = s.far on in omega arith;
          far = go_on;
          found = record { reached = new_reached; once = new_once };
          near = new_near;
          behind = λ more i t first.
              let i_in : i < n = subst (λ k. i < k) (as_many ∙ s.count) (taken_within new i t) in
              let self = distance_self n pos s.in_pos in
              let step = distance_next n pos s.in_pos pos to s.in_pos next (omega arith) in
              let over = away n pos i s.in_pos i_in (not_pos i t) in
              omega arith;
          moved = new_moved;
          freed = new_freed;
        }

      pub closes_filled : (after : List Cell) (next_hole : ℕ) → IsFilled now after hole pos next_hole
          → Closes n longest old after gone next_hole to (looked + 1)
      closes_filled after next_hole filled =
          let by_hole = as_passed pos hole in
          let by_pos = as_passed pos pos in
          let P : List Cell → ℕ → Type 0 = λ cells h. Closes n longest old cells gone h to (looked + 1) in
          elim filled [
            | inl f ↦
                let moves = f.1 in
                subst (λ h. P after h) (sym f.3) (subst (λ cells. P cells pos) (sym f.2) (closes_moves f.0 (omega arith)))
            | inr f ↦
                subst (λ h. P after h) (sym f.2) (subst (λ cells. P cells hole) (sym f.1)
                (closes_stays (λ taken. let stays = f.0 taken in omega arith)))
          ]
