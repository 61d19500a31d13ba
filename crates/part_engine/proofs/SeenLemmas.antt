-- How far a visit goes, and which rows it sees.
use Rattle.std.proofs.Common.{◌≡◌, ℕ, zero, suc, ◌≤◌, ◌<◌, ◌+◌, ◌-◌, List, [], ◌∷◌, ◌++◌, refl, ap, sym, ◌∙◌, length, take, drop, get_or, sum_by, arith, append_assoc}
use Rattle.std.specs.Prelude.{Bool, true, false, ◌&&◌, ◌||◌, ◌==◌, nat_le, if◌then◌else◌, Option, Some, None, option_map, slice_get}
use Rattle.std.specs.List.{last_or}
use Rattle.std.proofs.lemmas.Bool.{true≢false, eqb-true, eqb-false, le-leb, lt-leb}
use Rattle.std.proofs.lemmas.List.{append-nil, length-take-le, take_more, take_all, drop_more, drop_all}
use Rattle.std.proofs.lemmas.List.Sums.{sum_by_push}
use Rattle.mcode.specs.Program.{Program}
use Rattle.part_core.specs.declared.settings.Settings.{Settings}
use Rattle.part_core.specs.Settings.{is_ordered}
use Rattle.part_core.specs.Acts.{Purpose, Scope}
use Rattle.part_core.specs.Acts.Cursor.{Class, Behind}
use Rattle.part_core.specs.Acts.Scope.{Begin, After, Named}
use Rattle.part_core.specs.Rows.{Row, PartState}
use Rattle.part_core.specs.Visits.{most_rows, next_key, rows_up_to, following_rows, visited_rows, next_of, answers_of}
use Rattle.part_core.proofs.KeyLemmas.{by_test}
use Rattle.part_rows.specs.Looks.{looked_at}
use Rattle.part_engine.specs.Looks.{next_after, rows_until, stops}

-- at a place, a visit has seen the rows before it, and goes on with the rest, with a target of `wanting` more answers
pub record Sees (stops : Bool) (answers : Row → ℕ) (wanted : ℕ) (rows : List Row) (place wanting : ℕ) : Type 0 where
  pub whole : rows_until stops answers wanted rows ≡ take place rows ++ rows_until stops answers wanting (drop place rows)
  pub left : wanting ≡ wanted - sum_by answers (take place rows)

-- a visit has seen the rows before a place, and stops there
pub record Saw (stops : Bool) (answers : Row → ℕ) (wanted : ℕ) (rows : List Row) (place wanting : ℕ) : Type 0 where
  pub whole : take place rows ≡ rows_until stops answers wanted rows
  pub left : wanting ≡ wanted - sum_by answers (take place rows)

pub sees_none : (stops : Bool) (answers : Row → ℕ) (wanted : ℕ) (rows : List Row) → Sees stops answers wanted rows 0 wanted
sees_none stops answers wanted rows = record { whole = refl; left = omega arith }

-- what one more row takes from the target
seen_left : (answers : Row → ℕ) (wanted : ℕ) (rows : List Row) (place left : ℕ) (r : Row) → place < length rows → r ≡ get_or rows place r → left ≡ wanted - sum_by answers (take place rows) → left - answers r ≡ wanted - sum_by answers (take (place + 1) rows)
seen_left answers wanted rows place left r within is so_far =
    let sum : sum_by answers (take (place + 1) rows) ≡ sum_by answers (take place rows) + answers r = ap (sum_by answers) (take_more rows place r within ∙ ap (λ q. take place rows ++ q ∷ []) (sym is)) ∙ sum_by_push answers (take place rows) r in
    omega (arith, so_far, sum)

row_first : (rows : List Row) (place : ℕ) (r : Row) → place < length rows → r ≡ get_or rows place r → drop place rows ≡ r ∷ drop (place + 1) rows
row_first rows place r within is =
    drop_more rows place r within ∙ ap (λ q. q ∷ drop (place + 1) rows) (sym is)

row_last : (rows : List Row) (place : ℕ) (r : Row) → place < length rows → r ≡ get_or rows place r → take (place + 1) rows ≡ take place rows ++ r ∷ []
row_last rows place r within is =
    take_more rows place r within ∙ ap (λ q. take place rows ++ q ∷ []) (sym is)

step_on : (stops : Bool) (answers : Row → ℕ) (left : ℕ) (r : Row) (rest : List Row) → (stops && (left - answers r == 0)) ≡ false → rows_until stops answers left (r ∷ rest) ≡ r ∷ rows_until stops answers (left - answers r) rest
unfolding rows_until
step_on stops answers left r rest going = rw going refl

step_last : (stops : Bool) (answers : Row → ℕ) (left : ℕ) (r : Row) (rest : List Row) → (stops && (left - answers r == 0)) ≡ true → rows_until stops answers left (r ∷ rest) ≡ r ∷ []
unfolding rows_until
step_last stops answers left r rest done = rw done refl

pub sees_more : (stops : Bool) (answers : Row → ℕ) (wanted : ℕ) (rows : List Row) (place left : ℕ) (r : Row) → place < length rows → r ≡ get_or rows place r → Sees stops answers wanted rows place left → (stops && (left - answers r == 0)) ≡ false → Sees stops answers wanted rows (place + 1) (left - answers r)
sees_more stops answers wanted rows place left r within is s going = record {
  whole = s.whole
      ∙ ap (λ rs. take place rows ++ rows_until stops answers left rs) (row_first rows place r within is)
      ∙ ap (λ rs. take place rows ++ rs) (step_on stops answers left r (drop (place + 1) rows) going)
      ∙ sym (append_assoc (take place rows) (r ∷ []) (rows_until stops answers (left - answers r) (drop (place + 1) rows)))
      ∙ ap (λ rs. rs ++ rows_until stops answers (left - answers r) (drop (place + 1) rows)) (sym (row_last rows place r within is));
  left = seen_left answers wanted rows place left r within is s.left;
}

pub sees_last : (stops : Bool) (answers : Row → ℕ) (wanted : ℕ) (rows : List Row) (place left : ℕ) (r : Row) → place < length rows → r ≡ get_or rows place r → Sees stops answers wanted rows place left → (stops && (left - answers r == 0)) ≡ true → Saw stops answers wanted rows (place + 1) (left - answers r)
sees_last stops answers wanted rows place left r within is s done = record {
  whole = sym (s.whole
      ∙ ap (λ rs. take place rows ++ rows_until stops answers left rs) (row_first rows place r within is)
      ∙ ap (λ rs. take place rows ++ rs) (step_last stops answers left r (drop (place + 1) rows) done)
      ∙ sym (row_last rows place r within is));
  left = seen_left answers wanted rows place left r within is s.left;
}

-- at the end all rows were seen
until_none : (stops : Bool) (answers : Row → ℕ) (left : ℕ) → rows_until stops answers left [] ≡ []
unfolding rows_until
until_none stops answers left = refl

pub sees_all : (stops : Bool) (answers : Row → ℕ) (wanted : ℕ) (rows : List Row) (place left : ℕ) → length rows ≤ place → Sees stops answers wanted rows place left → Saw stops answers wanted rows (length rows) left
sees_all stops answers wanted rows place left over s =
    let end : take place rows ≡ rows = take_all place rows over in
    let whole : take (length rows) rows ≡ rows = take_all (length rows) rows (omega arith) in
    let none : drop place rows ≡ [] = drop_all place rows over in
    record {
      whole = whole ∙ sym (s.whole ∙ ap (λ rs. take place rows ++ rows_until stops answers left rs) none ∙ ap (λ rs. take place rows ++ rs) (until_none stops answers left) ∙ append-nil (take place rows) ∙ end);
      left = s.left ∙ ap (λ rs. wanted - sum_by answers rs) (end ∙ sym whole);
    }

-- ---- what a visit sees

pub until_all : (answers : Row → ℕ) (wanted : ℕ) (rows : List Row) → rows_until false answers wanted rows ≡ rows
unfolding rows_until
until_all answers wanted [] = refl
until_all answers wanted (r ∷ rows) = ap (λ rs. r ∷ rs) (until_all answers (wanted - answers r) rows)

until_up_to : (answers : Row → ℕ) (wanted more : ℕ) (rows : List Row) → rows_up_to answers wanted (suc more) rows ≡ rows_until true answers wanted (take (suc more) rows)
unfolding rows_up_to rows_until
until_up_to answers wanted more [] = refl
until_up_to answers wanted zero (r ∷ rows) =
    by_test (wanted - answers r == 0) _
    (λ done. rw done (last (nat_le wanted (answers r))))
    (λ going. rw going (last (nat_le wanted (answers r))))
  where
    last : (b : Bool) → r ∷ (if b || true then [] else rows_up_to answers (wanted - answers r) 0 rows) ≡ r ∷ []
    last true = refl
    last false = refl
until_up_to answers wanted (suc more) (r ∷ rows) =
    by_test (wanted - answers r == 0) _
    (λ done. let enough : nat_le wanted (answers r) ≡ true = le-leb wanted (answers r) (omega (arith, eqb-true (wanted - answers r) 0 done)) in rw (done, enough) refl)
    (λ going. let few : nat_le wanted (answers r) ≡ false = lt-leb wanted (answers r) (omega (arith, eqb-false (wanted - answers r) 0 going)) in
    let roomy : nat_le (suc (suc more)) 1 ≡ false = lt-leb (suc (suc more)) 1 (omega arith) in
    let less : suc (suc more) - 1 ≡ suc more = omega arith in
    rw (going, few, roomy, less) (ap (λ rs. r ∷ rs) (until_up_to answers (wanted - answers r) more rows)))

pub visited : (o : Settings) (s : PartState) (purpose : Purpose) (p : Program) (scope : Scope) (wanted : ℕ) → visited_rows o s purpose p scope wanted ≡ rows_until (stops o scope) (answers_of purpose p) wanted (looked_at o s.base scope s.rows)
visited o s purpose p (Named k) wanted =
    sym (until_all (answers_of purpose p) wanted (looked_at o s.base (Named k) s.rows))
visited o s purpose p (After (Class base class)) wanted =
    sym (until_all (answers_of purpose p) wanted (looked_at o s.base (After (Class base class)) s.rows))
visited o s purpose p (After (Behind k)) wanted =
    until_up_to (answers_of purpose p) wanted 63 (following_rows k s.rows)
visited o s purpose p Begin wanted =
    by_test (is_ordered o.kind) _
    (λ ordered. rw ordered (until_up_to (answers_of purpose p) wanted 63 s.rows))
    (λ plain. rw plain (sym (until_all (answers_of purpose p) wanted _)))

pub goes_on : (o : Settings) (s : PartState) (purpose : Purpose) (p : Program) (scope : Scope) (wanted : ℕ) → next_of o s purpose p scope wanted ≡ next_after o s.base scope (answers_of purpose p) wanted (visited_rows o s purpose p scope wanted)
goes_on o s purpose p (Named k) wanted = refl
goes_on o s purpose p (After (Class base class)) wanted = refl
goes_on o s purpose p (After (Behind k)) wanted = refl
goes_on o s purpose p Begin wanted = refl

-- where the walk goes on after a visit that doesn't stop before its end depends on no row
pub next_whole : (o : Settings) (base : ℕ) (scope : Scope) (answers : Row → ℕ) (wanted : ℕ) (rows others : List Row) → stops o scope ≡ false → next_after o base scope answers wanted rows ≡ next_after o base scope answers wanted others
next_whole o base (Named k) answers wanted rows others whole = refl
next_whole o base (After (Class other class)) answers wanted rows others whole = refl
next_whole o base (After (Behind k)) answers wanted rows others whole =
    absurd (true≢false whole)
next_whole o base Begin answers wanted rows others whole = rw whole refl

-- where the walk goes on after a visit that may stop depends on the last row that it saw
pub next_stops : (o : Settings) (base : ℕ) (scope : Scope) (answers : Row → ℕ) (wanted : ℕ) (rows : List Row) → stops o scope ≡ true → next_after o base scope answers wanted rows ≡ next_key answers wanted rows
next_stops o base (Named k) answers wanted rows stops = absurd (true≢false (sym stops))
next_stops o base (After (Class other class)) answers wanted rows stops =
    absurd (true≢false (sym stops))
next_stops o base (After (Behind k)) answers wanted rows stops = refl
next_stops o base Begin answers wanted rows stops = rw stops refl

-- ---- where a visit of an ordered set stops

le_zero : (wanted sum wanting : ℕ) → wanting ≡ wanted - sum → nat_le wanted sum ≡ (wanting == 0)
le_zero wanted sum wanting is =
    by_test (wanting == 0) _
    (λ none. rw none (le-leb wanted sum (omega (arith, is, eqb-true wanting 0 none))))
    (λ some. rw some (lt-leb wanted sum (omega (arith, is, eqb-false wanting 0 some))))

key_stops : (answers : Row → ℕ) (wanted : ℕ) (rows : List Row) (reach wanting : ℕ) → reach ≤ length rows → wanting ≡ wanted - sum_by answers (take reach rows) → next_key answers wanted (take reach rows) ≡ (if (wanting == 0) || (reach == most_rows) then option_map (λ r. Behind r.0) (last_or None (take reach rows)) else None)
key_stops answers wanted rows reach wanting within is =
    ap (λ b. if b || (length (take reach rows) == most_rows) then option_map (λ (r : Row). Behind r.0) (last_or None (take reach rows)) else None) (le_zero wanted (sum_by answers (take reach rows)) wanting is)
    ∙ ap (λ n. if (wanting == 0) || (n == most_rows) then option_map (λ (r : Row). Behind r.0) (last_or None (take reach rows)) else None) (length-take-le reach rows within)

pub key_none : (answers : Row → ℕ) (wanted : ℕ) (rows : List Row) (reach wanting : ℕ) (stopped : Bool) → reach ≤ length rows → wanting ≡ wanted - sum_by answers (take reach rows) → stopped ≡ ((wanting == 0) || (reach == most_rows)) → stopped ≡ false → None ≡ next_key answers wanted (take reach rows)
key_none answers wanted rows reach wanting stopped within is test none =
    sym (key_stops answers wanted rows reach wanting within is ∙ ap (λ b. if b then option_map (λ (r : Row). Behind r.0) (last_or None (take reach rows)) else None) (sym test ∙ none))

pub key_next : (answers : Row → ℕ) (wanted : ℕ) (rows : List Row) (reach wanting : ℕ) (stopped : Bool) (last : Option Row) → reach ≤ length rows → wanting ≡ wanted - sum_by answers (take reach rows) → stopped ≡ ((wanting == 0) || (reach == most_rows)) → stopped ≡ true → last ≡ last_or None (take reach rows) → option_map (λ r. Behind r.0) last ≡ next_key answers wanted (take reach rows)
key_next answers wanted rows reach wanting stopped last within is test some found =
    ap (option_map (λ (r : Row). Behind r.0)) found
    ∙ sym (key_stops answers wanted rows reach wanting within is ∙ ap (λ b. if b then option_map (λ (r : Row). Behind r.0) (last_or None (take reach rows)) else None) (sym test ∙ some))

last_get : (before : Option Row) (r : Row) (rows : List Row) → slice_get (r ∷ rows) (length rows) ≡ last_or before (r ∷ rows)
last_get before r [] = refl
last_get before r (v ∷ rows) = last_get (Some r) v rows

-- the element at the last position is the last
pub last_is : (rows : List Row) (r : Row) → Some r ≡ slice_get rows (length rows - 1) → Some r ≡ last_or None rows
last_is [] r is = is
last_is (v ∷ rows) r is =
    let place : length (v ∷ rows) - 1 ≡ length rows = omega arith in
    is ∙ ap (slice_get (v ∷ rows)) place ∙ last_get None v rows
