-- What a visit looks at, in terms of the visits of one thread.
use Rattle.std.proofs.Common.{◌≡◌, ◌<◌, ◌+◌, ◌-◌, ℕ, Option, Some, None, List, [], ◌∷◌, ◌++◌, refl, sym, subst, ◌∙◌, ap, arith, flat_map, map, length, fold, option_map}
use Rattle.std.specs.Prelude.{Bool, if◌then◌else◌, ◌||◌, ◌==◌, true, false, nat_le, filter, filter_map, sum_by}
use Rattle.std.specs.List.{AllByRecursion, last_or, range_with_len}
use Rattle.std.specs.List.Sorted.{IsStrictlySortedBy}
use Rattle.std.specs.Map.{keys_of}
use Rattle.std.specs.declared.cmp.Ordering.TheVariants.{Less}
use Rattle.std.proofs.lemmas.Bool.{leb-true, leb-false, ne_eqb, or_parts}
use Rattle.std.proofs.lemmas.List.{append-nil}
use Rattle.std.proofs.lemmas.List.Concat.{length-flat_map}
use Rattle.term_core.specs.Datum.{Datum}
use Rattle.term_core.specs.Order.{datum_cmp}
use Rattle.part_core.specs.Acts.{Cursor}
use Rattle.part_core.specs.Acts.Cursor.{Behind}
use Rattle.part_core.specs.Rows.{Row}
use Rattle.part_core.specs.Covers.{is_up_to}
use Rattle.part_core.specs.Visits.{is_beyond, most_rows, next_key, following_rows, rows_up_to}
use Rattle.part_core.proofs.KeyLemmas.{by_test, not_behind_itself, below_not_behind}
use Rattle.part_core.proofs.VisitLemmas.{filter_all, up_to_next}
use Rattle.tables.specs.Options.{settings_of}
use Rattle.tables.specs.OneThread.{TableState}
use Rattle.walk_core.specs.Walk.{Position}
use Rattle.walk_core.specs.Walk.Position.{InPart}
use Rattle.walks.specs.Sights.{Sight, answers_in, behind_part, goes_on, made, part_sights, row_sights, rows_seen, sights_from}
use Rattle.walks.proofs.MadeLemmas.{row_visit}
use Rattle.walks.proofs.SightLemmas.{rows_end}

-- the answers for the objects of rows
abbrev pub found_on : (Datum → Option Datum) → List Row → List Datum
found_on f rows = flat_map (λ r. filter_map f r.1) rows

abbrev pub gives : (Datum → Option Datum) → Row → ℕ
gives f r = length (filter_map f r.1)

-- A visit makes the first of the visits that are left, and the others are those from the walk's position after it. It
-- makes no visit that is not made with a target of `wanted` answers.
pub record Looks (f : Datum → Option Datum) (t : TableState) (plan : Option (List Datum)) (wanted : ℕ) (at next : Position) (found : List Datum) : Type 0 where
  pub front : List Sight
  pub splits : sights_from t plan at ≡ front ++ sights_from t plan next
  pub gains : answers_in f front ≡ found
  pub picks : made f wanted (sights_from t plan at) ≡ front ++ made f (wanted - length found) (sights_from t plan next)
  pub last : fold (λ before v. v.behind) at front ≡ next

-- ---- one visit

none_zero : (n : ℕ) → 0 < n → (n == 0) ≡ false
none_zero n h = ne_eqb n 0 (λ e. omega (arith, h, e))

-- one visit, of those that are left
pub one_looks : (f : Datum → Option Datum) (t : TableState) (plan : Option (List Datum)) (wanted : ℕ) (at : Position) (v : Sight) → 0 < wanted
    → sights_from t plan at ≡ v ∷ sights_from t plan v.behind
    → Looks f t plan wanted at v.behind (found_on f v.rows)
one_looks f t plan wanted at v some is =
    let all : answers_in f (v ∷ []) ≡ found_on f v.rows = ap (found_on f) (append-nil v.rows) in
    record {
      front = v ∷ [];
      splits = is;
      gains = all;
      picks = ap (made f wanted) is ∙ first (wanted == 0) (none_zero wanted some) ∙ ap (λ (xs : List Datum). v ∷ made f (wanted - length xs) (sights_from t plan v.behind)) all;
      last = refl;
    }
  where
    first : (b : Bool) → b ≡ false → (if b then [] else v ∷ made f (wanted - length (answers_in f (v ∷ []))) (sights_from t plan v.behind)) ≡ v ∷ made f (wanted - length (answers_in f (v ∷ []))) (sights_from t plan v.behind)
    first false h = refl
    first true h = cc

-- ---- rows in order

abbrev last_of : Row → List Row → Row
last_of r [] = r
last_of r (v ∷ vs) = last_of v vs

last_is : (r : Row) (vs : List Row) → last_or (Some r) vs ≡ Some (last_of r vs)
last_is r [] = refl
last_is r (v ∷ vs) = last_is v vs

pub all_behind : (j : Datum) (rest : List Row) → AllByRecursion (λ k. datum_cmp j k ≡ Less) (keys_of rest) → filter (λ r. is_beyond j r.0) rest ≡ rest
all_behind j [] h = refl
all_behind j (r ∷ rest) h = rw (h.0) (ap (λ rs. r ∷ rs) (all_behind j rest h.1))

below_last : (j : Datum) (r : Row) (vs rest : List Row) → AllByRecursion (λ k. datum_cmp j k ≡ Less) (keys_of (r ∷ vs ++ rest)) → datum_cmp j (last_of r vs).0 ≡ Less
below_last j r [] rest h = h.0
below_last j r (v ∷ vs) rest h = below_last j v vs rest h.1

-- of rows in order, those after the last of the first rows are the rest
rest_behind : (r : Row) (vs rest : List Row) → IsStrictlySortedBy datum_cmp (keys_of (r ∷ vs ++ rest)) → filter (λ v. is_beyond (last_of r vs).0 v.0) (r ∷ vs ++ rest) ≡ rest
unfolding IsStrictlySortedBy
rest_behind r [] rest s = rw (not_behind_itself r.0) (all_behind r.0 rest s.0)
rest_behind r (v ∷ vs) rest s =
    rw (below_not_behind r.0 (last_of v vs).0 (below_last r.0 v vs rest s.0)) (rest_behind v vs rest s.1)

-- the rows that a visit looks at come first, and the rest follows
left_over : (answers : Row → ℕ) (wanted room : ℕ) (xs : List Row) → (rest : List Row) × (xs ≡ rows_up_to answers wanted room xs ++ rest)
unfolding rows_up_to
left_over answers wanted room [] = ([], refl)
left_over answers wanted room (x ∷ xs) =
    by_test (nat_le wanted (answers x) || nat_le room 1) _
    (λ stops. rw stops (xs, refl))
    (λ goes. let more = left_over answers (wanted - answers x) (room - 1) xs in rw goes (more.0, ap (λ ys. x ∷ ys) more.1))

abbrev row_sight : ℕ → Row → Sight
row_sight part r = record { rows = r ∷ []; behind = InPart part (Some (Behind r.0)) }

rows_in : (part : ℕ) (rs : List Row) → rows_seen (map (row_sight part) rs) ≡ rs
rows_in part [] = refl
rows_in part (r ∷ rs) = ap (λ xs. r ∷ xs) (rows_in part rs)

joined : (t : TableState) (part : ℕ) (xs left : List Row) (ws : List Sight) → row_sights t part (xs ++ left) ++ ws ≡ map (row_sight part) xs ++ (row_sights t part left ++ ws)
joined t part [] left ws = refl
joined t part (x ∷ xs) left ws = ap (λ vs. row_sight part x ∷ vs) (joined t part xs left ws)

behind_rows : (part : ℕ) (at : Position) (r : Row) (rs : List Row) → fold (λ (before : Position) (v : Sight). v.behind) at (map (row_sight part) (r ∷ rs)) ≡ InPart part (Some (Behind (last_of r rs).0))
behind_rows part at r [] = refl
behind_rows part at r (v ∷ vs) = behind_rows part (InPart part (Some (Behind r.0))) v vs

-- which visits are made, of those that begin with the rows of a visit
visit_picks : (f : Datum → Option Datum) (t : TableState) (part wanted : ℕ) (rows vs left : List Row) (ws : List Sight) → 0 < wanted → vs ≡ rows_up_to (gives f) wanted most_rows rows → rows ≡ vs ++ left
    → made f wanted (row_sights t part rows ++ ws) ≡ map (row_sight part) vs ++ made f (wanted - length (found_on f vs)) (row_sights t part left ++ ws)
visit_picks f t part wanted rows vs left ws some is splits =
    let all : answers_in f (map (row_sight part) vs) ≡ found_on f vs = ap (found_on f) (rows_in part vs) in
    subst (λ (xs : List Row). made f wanted (row_sights t part rows ++ ws) ≡ map (row_sight part) xs ++ made f (wanted - length (answers_in f (map (row_sight part) xs))) (row_sights t part left ++ ws)) (sym is)
    (row_visit f t part wanted most_rows rows left ws some (splits ∙ ap (λ (xs : List Row). xs ++ left) is))
    ∙ ap (λ (xs : List Datum). map (row_sight part) vs ++ made f (wanted - length xs) (row_sights t part left ++ ws)) all

-- the visits of the parts after one
abbrev pub later_parts : TableState → ℕ → List Sight
later_parts t part = flat_map (λ k. part_sights t k None) (range_with_len (part + 1) (t.options.parts - (part + 1)))

-- a visit that stops after its last row
stopped_looks : (f : Datum → Option Datum) (t : TableState) (plan : Option (List Datum)) (part wanted : ℕ) (at : Position) (rows : List Row) (r : Row) (rs left : List Row) → 0 < wanted
    → sights_from t plan at ≡ row_sights t part rows ++ later_parts t part
    → r ∷ rs ≡ rows_up_to (gives f) wanted most_rows rows → rows ≡ (r ∷ rs) ++ left
    → following_rows (last_of r rs).0 (t.states part).rows ≡ left
    → Looks f t plan wanted at (InPart part (Some (Behind (last_of r rs).0))) (found_on f (r ∷ rs))
stopped_looks f t plan part wanted at rows r rs left some from is splits behind = record {
  front = map (row_sight part) (r ∷ rs);
  splits = from ∙ ap (λ (xs : List Row). row_sights t part xs ++ later_parts t part) splits ∙ joined t part (r ∷ rs) left (later_parts t part)
      ∙ ap (λ (xs : List Row). map (row_sight part) (r ∷ rs) ++ (row_sights t part xs ++ later_parts t part)) (sym behind);
  gains = ap (found_on f) (rows_in part (r ∷ rs));
  picks = ap (made f wanted) from ∙ visit_picks f t part wanted rows (r ∷ rs) left (later_parts t part) some is splits
      ∙ ap (λ (xs : List Row). map (row_sight part) (r ∷ rs) ++ made f (wanted - length (found_on f (r ∷ rs))) (row_sights t part xs ++ later_parts t part)) (sym behind);
  last = behind_rows part at r rs;
}

abbrev end_sight : TableState → ℕ → Sight
end_sight t part = record { rows = []; behind = behind_part t part }

fold_end : (t : TableState) (part : ℕ) (at : Position) (vs : List Sight) → fold (λ (before : Position) (v : Sight). v.behind) at (vs ++ end_sight t part ∷ []) ≡ behind_part t part
fold_end t part at [] = refl
fold_end t part at (v ∷ vs) = fold_end t part v.behind vs

seen_end : (t : TableState) (part : ℕ) (vs : List Sight) → rows_seen (vs ++ end_sight t part ∷ []) ≡ rows_seen vs
seen_end t part [] = refl
seen_end t part (v ∷ vs) = ap (λ (rs : List Row). v.rows ++ rs) (seen_end t part vs)

end_on : (t : TableState) (part : ℕ) (vs ws : List Sight) → vs ++ (end_sight t part ∷ ws) ≡ (vs ++ end_sight t part ∷ []) ++ ws
end_on t part [] ws = refl
end_on t part (v ∷ vs) ws = ap (λ (xs : List Sight). v ∷ xs) (end_on t part vs ws)

-- a visit that finds no row left
ended_looks : (f : Datum → Option Datum) (t : TableState) (plan : Option (List Datum)) (part wanted : ℕ) (at : Position) (rows : List Row) → 0 < wanted
    → sights_from t plan at ≡ row_sights t part rows ++ later_parts t part
    → rows ≡ rows_up_to (gives f) wanted most_rows rows → sum_by (gives f) rows < wanted
    → Looks f t plan wanted at (behind_part t part) (found_on f rows)
ended_looks f t plan part wanted at rows some from is few =
    let rest = sights_from t plan (behind_part t part) in
    let number : length (found_on f rows) ≡ sum_by (gives f) rows = length-flat_map (λ (r : Row). filter_map f r.1) rows in
    let left : ℕ = wanted - length (found_on f rows) in
    let more : 0 < left = omega (arith, few, number) in
    let same : left - 0 ≡ left = omega arith in
    record {
      front = map (row_sight part) rows ++ end_sight t part ∷ [];
      splits = from ∙ ap (λ (xs : List Row). row_sights t part xs ++ later_parts t part) (sym (append-nil rows)) ∙ joined t part rows [] (later_parts t part)
          ∙ ap (λ (xs : List Sight). map (row_sight part) rows ++ xs) (rows_end t plan part)
          ∙ end_on t part (map (row_sight part) rows) rest;
      gains = ap (found_on f) (seen_end t part (map (row_sight part) rows) ∙ rows_in part rows);
      picks = ap (made f wanted) from ∙ visit_picks f t part wanted rows rows [] (later_parts t part) some is (sym (append-nil rows))
          ∙ ap (λ (xs : List Sight). map (row_sight part) rows ++ made f left xs) (rows_end t plan part)
          ∙ ap (λ (xs : List Sight). map (row_sight part) rows ++ xs) (first (left == 0) (none_zero left more) (left - 0) ∙ ap (λ (n : ℕ). end_sight t part ∷ made f n rest) same)
          ∙ end_on t part (map (row_sight part) rows) (made f left rest);
      last = fold_end t part at (map (row_sight part) rows);
    }
  where
    first : (b : Bool) → b ≡ false → (n : ℕ) → (if b then [] else end_sight t part ∷ made f n (sights_from t plan (behind_part t part))) ≡ end_sight t part ∷ made f n (sights_from t plan (behind_part t part))
    first false h n = refl
    first true h n = cc

first_of : (b : Bool) → b ≡ true → (x y : Option Cursor) → (if b then x else y) ≡ x
first_of true h x y = refl
first_of false h x y = cc

second_of : (b : Bool) → b ≡ false → (x y : Option Cursor) → (if b then x else y) ≡ y
second_of false h x y = refl
second_of true h x y = cc

-- a visit of rows in order
pub rows_looks : (f : Datum → Option Datum) (t : TableState) (plan : Option (List Datum)) (part wanted : ℕ) (at : Position) (rows : List Row) → 0 < wanted
    → sights_from t plan at ≡ row_sights t part rows ++ later_parts t part
    → IsStrictlySortedBy datum_cmp (keys_of rows)
    → ((k : Datum) → next_key (gives f) wanted (rows_up_to (gives f) wanted most_rows rows) ≡ Some (Behind k) → following_rows k (t.states part).rows ≡ following_rows k rows)
    → Looks f t plan wanted at (goes_on t part (next_key (gives f) wanted (rows_up_to (gives f) wanted most_rows rows))) (found_on f (rows_up_to (gives f) wanted most_rows rows))
rows_looks f t plan part wanted at rows some from sorted leads =
    by_test (nat_le wanted (sum_by (gives f) vs) || length vs == most_rows) _
    (λ stops. stopped vs refl stops)
    (λ goes. let parts = or_parts (nat_le wanted (sum_by (gives f) vs)) _ goes in
    let all : vs ≡ rows = up_to_next (settings_of t.options) (gives f) wanted most_rows rows (omega arith) sorted ∙ ap (λ (next : Option Cursor). filter (λ r. is_up_to (settings_of t.options) next r.0) rows) (second_of _ goes _ _) ∙ filter_all rows in
    subst (λ (next : Option Cursor). Looks f t plan wanted at (goes_on t part next) (found_on f vs)) (sym (second_of _ goes _ _))
    (subst (λ (xs : List Row). Looks f t plan wanted at (behind_part t part) (found_on f xs)) (sym all)
    (ended_looks f t plan part wanted at rows some from (sym all) (subst (λ (xs : List Row). sum_by (gives f) xs < wanted) all (leb-false wanted _ parts.0)))))
  where
    vs : List Row
    vs = rows_up_to (gives f) wanted most_rows rows

    over : (rest : List Row) × (rows ≡ rows_up_to (gives f) wanted most_rows rows ++ rest)
    over = left_over (gives f) wanted most_rows rows

    none_wanted : (b : Bool) → (b || false) ≡ true → b ≡ true
    none_wanted true h = refl
    none_wanted false h = h

    stopped : (xs : List Row) → xs ≡ rows_up_to (gives f) wanted most_rows rows → (nat_le wanted (sum_by (gives f) xs) || length xs == most_rows) ≡ true
        → Looks f t plan wanted at (goes_on t part (next_key (gives f) wanted xs)) (found_on f xs)
    stopped [] is stops = absurd (omega (arith, some, leb-true wanted 0 (none_wanted (nat_le wanted 0) stops)))
    stopped (r ∷ rs) is stops =
        let next : next_key (gives f) wanted (r ∷ rs) ≡ Some (Behind (last_of r rs).0) = first_of _ stops _ _ ∙ ap (option_map (λ (v : Row). Behind v.0)) (last_is r rs) in
        let splits : rows ≡ (r ∷ rs) ++ over.0 = over.1 ∙ ap (λ (xs : List Row). xs ++ over.0) (sym is) in
        let behind : following_rows (last_of r rs).0 (t.states part).rows ≡ over.0 = leads (last_of r rs).0 (ap (next_key (gives f) wanted) (sym is) ∙ next) ∙ ap (following_rows (last_of r rs).0) splits
        ∙ rest_behind r rs over.0 (subst (λ (xs : List Row). IsStrictlySortedBy datum_cmp (keys_of xs)) splits sorted) in
        subst (λ (c : Option Cursor). Looks f t plan wanted at (goes_on t part c) (found_on f (r ∷ rs))) (sym next)
        (stopped_looks f t plan part wanted at rows r rs over.0 some from is splits behind)
