-- Visits: which rows they look at.
use Rattle.std.proofs.Common.{◌≡◌, ℕ, ◌≤◌, ◌-◌, List, [], ◌∷◌, ◌++◌, refl, ap, sym, subst, ◌∙◌, arith, length}
use Rattle.std.specs.Prelude.{Bool, true, false, not, ◌&&◌, ◌||◌, ◌==◌, if◌then◌else◌, nat_le, Option, Some, None, option_map, filter, sum_by}
use Rattle.std.specs.List.{AllByRecursion, last_or}
use Rattle.std.specs.List.Sorted.{IsStrictlySortedBy}
use Rattle.std.specs.Map.{keys_of}
use Rattle.std.specs.declared.cmp.Ordering.TheVariants.{Less}
use Rattle.std.proofs.lemmas.Bool.{or_parts, leb-true, leb-false, eqb-false, lt-leb, ne_eqb}
use Rattle.std.proofs.lemmas.List.Sums.{sum_by-cons}
use Rattle.term_core.specs.Datum.{Datum}
use Rattle.term_core.specs.Order.{datum_cmp}
use Rattle.part_core.specs.declared.settings.Settings.{Settings}
use Rattle.part_core.specs.Acts.Cursor.{Behind}
use Rattle.part_core.specs.Rows.{Row}
use Rattle.part_core.specs.Visits.{is_beyond, rows_up_to}
use Rattle.part_core.specs.Covers.{is_up_to}
use Rattle.part_core.proofs.KeyLemmas.{by_test, not_behind_itself, below_not_behind}

pub filter-filter : {X : Type 0} (p q : X → Bool) (xs : List X) → filter p (filter q xs) ≡ filter (λ x. q x && p x) xs
filter-filter p q [] = refl
filter-filter p q (x ∷ xs) =
    by_test (q x) _
    (λ holds. rw holds (by_test (p x) _ (λ passes. rw passes (ap (λ ys. x ∷ ys) (filter-filter p q xs))) (λ stops. rw stops (filter-filter p q xs))))
    (λ fails. rw fails (filter-filter p q xs))

pub filter_all : {X : Type 0} (xs : List X) → filter (λ x. true) xs ≡ xs
filter_all [] = refl
filter_all (x ∷ xs) = ap (λ ys. x ∷ ys) (filter_all xs)

-- the last of a list of rows whose first is given
abbrev last_row : Row → List Row → Row
last_row r [] = r
last_row r (v ∷ vs) = last_row v vs

last_is : (r : Row) (vs : List Row) → last_or (Some r) vs ≡ Some (last_row r vs)
last_is r [] = refl
last_is r (v ∷ vs) = last_is v vs

below_last : (j : Datum) (r : Row) (vs rest : List Row) → AllByRecursion (λ k. datum_cmp j k ≡ Less) (keys_of (r ∷ vs ++ rest)) → datum_cmp j (last_row r vs).0 ≡ Less
below_last j r [] rest h = h.0
below_last j r (v ∷ vs) rest h = below_last j v vs rest h.1

none_up_to : (j : Datum) (rest : List Row) → AllByRecursion (λ k. datum_cmp j k ≡ Less) (keys_of rest) → filter (λ r. not (is_beyond j r.0)) rest ≡ []
none_up_to j [] h = refl
none_up_to j (r ∷ rest) h = rw (h.0) (none_up_to j rest h.1)

-- of rows in order, those up to the last of the first rows are exactly the first rows
up_to_last : (r : Row) (vs rest : List Row) → IsStrictlySortedBy datum_cmp (keys_of (r ∷ vs ++ rest)) → filter (λ v. not (is_beyond (last_row r vs).0 v.0)) (r ∷ vs ++ rest) ≡ r ∷ vs
unfolding IsStrictlySortedBy
up_to_last r [] rest s =
    rw (not_behind_itself r.0) (ap (λ vs. r ∷ vs) (none_up_to r.0 rest s.0))
up_to_last r (v ∷ vs) rest s =
    rw (below_not_behind r.0 (last_row v vs).0 (below_last r.0 v vs rest s.0)) (ap (λ ws. r ∷ ws) (up_to_last v vs rest s.1))

-- the rows that a visit looks at come first, and the rest follows
rows_after_visit : (answers : Row → ℕ) (wanted room : ℕ) (xs : List Row) → (rest : List Row) × (xs ≡ rows_up_to answers wanted room xs ++ rest)
unfolding rows_up_to
rows_after_visit answers wanted room [] = ([], refl)
rows_after_visit answers wanted room (x ∷ xs) =
    by_test (nat_le wanted (answers x) || nat_le room 1) _
    (λ stops. rw stops (xs, refl))
    (λ goes. let more = rows_after_visit answers (wanted - answers x) (room - 1) xs in rw goes (more.0, ap (λ ys. x ∷ ys) more.1))

-- if neither the number of answers nor the room stops a visit, it looks at all rows
all_looked_at : (answers : Row → ℕ) (wanted room : ℕ) (xs : List Row) → 1 ≤ room → nat_le wanted (sum_by answers (rows_up_to answers wanted room xs)) ≡ false → (length (rows_up_to answers wanted room xs) == room) ≡ false → rows_up_to answers wanted room xs ≡ xs
unfolding rows_up_to
all_looked_at answers wanted room [] some few short = refl
all_looked_at answers wanted room (x ∷ xs) some few short =
    step (nat_le wanted (answers x)) (nat_le room 1) refl refl few short (all_looked_at answers (wanted - answers x) (room - 1) xs)
  where
    more : List Row
    more = rows_up_to answers (wanted - answers x) (room - 1) xs

    step : (a b : Bool) → nat_le wanted (answers x) ≡ a → nat_le room 1 ≡ b → nat_le wanted (sum_by answers (x ∷ (if a || b then [] else rows_up_to answers (wanted - answers x) (room - 1) xs))) ≡ false → (length (x ∷ (if a || b then [] else rows_up_to answers (wanted - answers x) (room - 1) xs)) == room) ≡ false → (1 ≤ room - 1 → nat_le (wanted - answers x) (sum_by answers (rows_up_to answers (wanted - answers x) (room - 1) xs)) ≡ false → (length (rows_up_to answers (wanted - answers x) (room - 1) xs) == room - 1) ≡ false → rows_up_to answers (wanted - answers x) (room - 1) xs ≡ xs) → x ∷ (if a || b then [] else rows_up_to answers (wanted - answers x) (room - 1) xs) ≡ x ∷ xs
    step true b enough full few short next =
        absurd (omega (arith, leb-true wanted (answers x) enough, leb-false wanted _ few))
    step false true enough full few short next =
        absurd (eqb-false 1 room short (omega (arith, leb-true room 1 full)))
    step false false enough full few short next =
        let long = leb-false room 1 full in
        let total = sum_by-cons answers x (rows_up_to answers (wanted - answers x) (room - 1) xs) in
        let less = leb-false wanted _ few in
        ap (λ ys. x ∷ ys) (next (omega arith) (lt-leb _ _ (omega arith)) (ne_eqb _ _ (λ e. eqb-false _ room short (omega arith))))

looked_at_some : (answers : Row → ℕ) (wanted room : ℕ) (xs : List Row) → rows_up_to answers wanted room xs ≡ [] → xs ≡ []
unfolding rows_up_to
looked_at_some answers wanted room [] e = refl
looked_at_some answers wanted room (x ∷ xs) e = cc

stopped_at : (o : Settings) (vs rest xs : List Row) → xs ≡ vs ++ rest → (vs ≡ [] → xs ≡ []) → IsStrictlySortedBy datum_cmp (keys_of xs) → vs ≡ filter (λ r. is_up_to o (option_map (λ v. Behind v.0) (last_or None vs)) r.0) xs
stopped_at o [] rest xs e none s = rw (none refl) refl
stopped_at o (v ∷ vs) rest xs e none s =
    let sorted : IsStrictlySortedBy datum_cmp (keys_of (v ∷ vs ++ rest)) = subst (λ (ys : List Row). IsStrictlySortedBy datum_cmp (keys_of ys)) e s in
    sym (ap (λ (ys : List Row). filter (λ r. is_up_to o (option_map (λ w. Behind w.0) (last_or (Some v) vs)) r.0) ys) e ∙ ap (λ (l : Option Row). filter (λ r. is_up_to o (option_map (λ w. Behind w.0) l) r.0) (v ∷ vs ++ rest)) (last_is v vs) ∙ up_to_last v vs rest sorted)

-- so of rows in order, a visit looks at those up to where the walk goes on
pub up_to_next : (o : Settings) (answers : Row → ℕ) (wanted room : ℕ) (xs : List Row) → 1 ≤ room → IsStrictlySortedBy datum_cmp (keys_of xs) → rows_up_to answers wanted room xs ≡ filter (λ r. is_up_to o (if nat_le wanted (sum_by answers (rows_up_to answers wanted room xs)) || length (rows_up_to answers wanted room xs) == room then option_map (λ r. Behind r.0) (last_or None (rows_up_to answers wanted room xs)) else None) r.0) xs
up_to_next o answers wanted room xs some s =
    let split = rows_after_visit answers wanted room xs in
    by_test (nat_le wanted (sum_by answers (rows_up_to answers wanted room xs)) || length (rows_up_to answers wanted room xs) == room) _
    (λ stops. rw stops (stopped_at o (rows_up_to answers wanted room xs) split.0 xs split.1 (looked_at_some answers wanted room xs) s))
    (λ goes. rw goes (all_looked_at answers wanted room xs some (or_parts _ _ goes).0 (or_parts _ _ goes).1 ∙ sym (filter_all xs)))
