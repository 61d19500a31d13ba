-- Which visits are made: of rows of an ordered set, those that one visit of the part looks at together.
use Rattle.std.proofs.Common.{◌≡◌, ◌<◌, ◌+◌, ◌-◌, ℕ, Option, Some, List, [], ◌∷◌, ◌++◌, refl, sym, ◌∙◌, ap, arith, flat_map, map, length}
use Rattle.std.specs.Prelude.{Bool, if◌then◌else◌, ◌||◌, ◌==◌, true, false, nat_le, filter_map}
use Rattle.std.proofs.lemmas.Bool.{eqb-true, leb-false, ne_eqb}
use Rattle.std.proofs.lemmas.List.{append-nil, length-append}
use Rattle.std.proofs.lemmas.List.Concat.{flat_map-append}
use Rattle.term_core.specs.Datum.{Datum}
use Rattle.part_core.specs.Acts.Cursor.{Behind}
use Rattle.part_core.specs.Rows.{Row}
use Rattle.part_core.specs.Visits.{rows_up_to}
use Rattle.tables.specs.OneThread.{TableState}
use Rattle.part_core.proofs.KeyLemmas.{by_test}
use Rattle.walks.specs.Sights.{Sight, row_sights, rows_seen, answers_in, made}
use Rattle.walk_core.specs.Walk.Position.{InPart}

none_made : (f : Datum → Option Datum) (vs : List Sight) → made f 0 vs ≡ []
none_made f [] = refl
none_made f (v ∷ vs) = refl

answers_more : (f : Datum → Option Datum) (v : Sight) (vs : List Sight) → answers_in f (v ∷ vs) ≡ answers_in f (v ∷ []) ++ answers_in f vs
answers_more f v vs =
    flat_map-append (λ r. filter_map f r.1) v.rows (rows_seen vs)
    ∙ ap (λ rows. flat_map (λ r. filter_map f r.1) rows ++ answers_in f vs) (sym (append-nil v.rows))

-- of two lists of visits, the second is made with the target that is left after the first
pub made_on : (f : Datum → Option Datum) (wanted : ℕ) (vs ws : List Sight) → made f wanted (vs ++ ws) ≡ made f wanted vs ++ made f (wanted - length (answers_in f vs)) ws
made_on f wanted [] ws =
    let same : wanted ≡ wanted - 0 = omega arith in
    ap (λ n. made f n ws) same
made_on f wanted (v ∷ vs) ws =
    let one = length (answers_in f (v ∷ [])) in
    let more = length (answers_in f vs) in
    let all : length (answers_in f (v ∷ vs)) ≡ one + more = ap length (answers_more f v vs) ∙ length-append (answers_in f (v ∷ [])) (answers_in f vs) in
    by_test (wanted == 0) _
    (λ none. let left : wanted - length (answers_in f (v ∷ vs)) ≡ 0 = omega (arith, eqb-true wanted 0 none) in
    rw none (sym (ap (λ n. made f n ws) left ∙ none_made f ws)))
    (λ some. let left : (wanted - one) - more ≡ wanted - length (answers_in f (v ∷ vs)) = omega (arith, all) in
    rw some (ap (λ xs. v ∷ xs) (made_on f (wanted - one) vs ws ∙ ap (λ n. made f (wanted - one) vs ++ made f n ws) left)))

abbrev row_sight : ℕ → Row → Sight
row_sight part r = record { rows = r ∷ []; behind = InPart part (Some (Behind r.0)) }

answers_at : (f : Datum → Option Datum) (part : ℕ) (r : Row) → answers_in f (row_sight part r ∷ []) ≡ filter_map f r.1
answers_at f part r = append-nil (filter_map f r.1)

-- each of the rows that one visit looks at has its visit made
rows_made : (f : Datum → Option Datum) (part wanted room : ℕ) (rs : List Row) → 0 < wanted → made f wanted (map (row_sight part) (rows_up_to (λ r. length (filter_map f r.1)) wanted room rs)) ≡ map (row_sight part) (rows_up_to (λ r. length (filter_map f r.1)) wanted room rs)
unfolding rows_up_to
rows_made f part wanted room [] some = refl
rows_made f part wanted room (r ∷ rs) some =
    let found = length (filter_map f r.1) in
    let rest = rows_up_to (λ r. length (filter_map f r.1)) (wanted - found) (room - 1) rs in
    let wants : (wanted == 0) ≡ false = not_zero wanted some in
    let same : length (answers_in f (row_sight part r ∷ [])) ≡ found = ap length (answers_at f part r) in
    rw wants (ap (λ vs. row_sight part r ∷ vs) (ap (λ n. made f (wanted - n) (map (row_sight part) (if nat_le wanted found || nat_le room 1 then [] else rest))) same
    ∙ by_test (nat_le wanted found || nat_le room 1) _
    (λ stops. rw stops refl)
    (λ goes. rw goes (rows_made f part (wanted - found) (room - 1) rs (few wanted found (or_false_left (nat_le wanted found) (nat_le room 1) goes))))))
  where
    not_zero : (n : ℕ) → 0 < n → (n == 0) ≡ false
    not_zero n h = ne_eqb n 0 (λ e. omega (arith, h, e))

    or_false_left : (a b : Bool) → (a || b) ≡ false → a ≡ false
    or_false_left true b h = h
    or_false_left false b h = refl

    few : (n m : ℕ) → nat_le n m ≡ false → 0 < n - m
    few n m h = let less : m < n = leb-false n m h in omega (arith, less)

-- one visit of an ordered set's part: the rows that it looks at, and then the visits that follow
pub row_visit : (f : Datum → Option Datum) (t : TableState) (part wanted room : ℕ) (rs left : List Row) (ws : List Sight) → 0 < wanted → rs ≡ rows_up_to (λ r. length (filter_map f r.1)) wanted room rs ++ left → made f wanted (row_sights t part rs ++ ws) ≡ map (row_sight part) (rows_up_to (λ r. length (filter_map f r.1)) wanted room rs) ++ made f (wanted - length (answers_in f (map (row_sight part) (rows_up_to (λ r. length (filter_map f r.1)) wanted room rs)))) (row_sights t part left ++ ws)
row_visit f t part wanted room rs left ws some split =
    let front = rows_up_to (λ r. length (filter_map f r.1)) wanted room rs in
    ap (λ xs. made f wanted (row_sights t part xs ++ ws)) split
    ∙ ap (made f wanted) (joined front)
    ∙ made_on f wanted (map (row_sight part) front) (row_sights t part left ++ ws)
    ∙ ap (λ vs. vs ++ made f (wanted - length (answers_in f (map (row_sight part) front))) (row_sights t part left ++ ws)) (rows_made f part wanted room rs some)
  where
    joined : (xs : List Row) → row_sights t part (xs ++ left) ++ ws ≡ map (row_sight part) xs ++ (row_sights t part left ++ ws)
    joined [] = refl
    joined (x ∷ xs) = ap (λ vs. row_sight part x ∷ vs) (joined xs)
