-- Rows from which the objects for which a query returns true are deleted, at some of the keys.
use Rattle.std.proofs.Common.{◌≡◌, ℕ, suc, List, [], ◌∷◌, refl, sym, ◌∙◌, ap, arith, length}
use Rattle.std.specs.Prelude.{IsTrue, Bool, true, false, not, ◌||◌, if◌then◌else◌, filter, All}
use Rattle.std.specs.List.{list_any}
use Rattle.std.specs.Map.{keys_of}
use Rattle.std.proofs.lemmas.List.Elements.{All-head, All-tail, All-weaker}
use Rattle.term_core.specs.Datum.{Datum}
use Rattle.term_operand.specs.Order.{is_same}
use Rattle.mcode.specs.Program.{Program}
use Rattle.part_core.specs.declared.settings.Settings.{Settings}
use Rattle.part_core.specs.Acts.{Scope, Said}
use Rattle.part_core.specs.Acts.Act.{Visit}
use Rattle.part_core.specs.Acts.Answer.{Replied}
use Rattle.part_core.specs.Acts.Purpose.{Deletes}
use Rattle.part_core.specs.After.{after, kept_rows, state_with}
use Rattle.part_core.specs.Covers.{covers}
use Rattle.part_core.specs.Replies.{reply_of}
use Rattle.part_core.specs.Rows.{Row, PartState, is_empty, is_live, is_fixed, has_row}
use Rattle.part_core.specs.States.{IsState}
use Rattle.part_core.specs.Visits.{is_inside, is_true, next_of}
use Rattle.part_core.proofs.AfterLemmas.{kept_after, same_state}
use Rattle.part_core.proofs.CoverLemmas.{rows_there}
use Rattle.part_core.proofs.KeyLemmas.{by_test}
use Rattle.part_core.proofs.RowLemmas.{rows_by, among_passing}
use Rattle.part_core.proofs.StateLemmas.{after_replied, visited_is_covered}

-- the objects of a key without those for which the query returns true, if a test says so
abbrev pub cut_objects : Program → Bool → List Datum → List Datum
cut_objects p here os = if here then filter (λ t. not (is_true p t)) os else os

abbrev pub cut : Program → (Datum → Bool) → List Row → List Row
cut p done rows = rows_by (λ j os. cut_objects p (done j) os) rows

-- the state of a part in which these objects are deleted
abbrev pub cut_state : Settings → Program → (Datum → Bool) → PartState → PartState
cut_state o p done s = state_with o s (cut p done s.rows) s.fixes

pub cut_length : (p : Program) (done : Datum → Bool) (rows : List Row) → length (cut p done rows) ≡ length rows
cut_length p done [] = refl
cut_length p done (r ∷ rows) = ap suc (cut_length p done rows)

pub cut_shows : (o : Settings) (p : Program) (done : Datum → Bool) (s : PartState) → IsState o s → cut_state o p done s ≡ record { rows = kept_rows s.fixes (cut p done s.rows); fixes = s.fixes; slots = s.slots; base = s.base }
cut_shows o p done s state = kept_after o s (cut p done s.rows) state (omega (arith, cut_length p done s.rows))

-- nothing is deleted if no key is done
pub cut_none : (p : Program) (rows : List Row) → cut p (λ j. false) rows ≡ rows
cut_none p [] = refl
cut_none p (r ∷ rows) = ap (λ (rs : List Row). r ∷ rs) (cut_none p rows)

pub cut_nowhere : (o : Settings) (p : Program) (s : PartState) → IsState o s → cut_state o p (λ j. false) s ≡ s
cut_nowhere o p s state = ap (λ (rows : List Row). state_with o s rows s.fixes) (cut_none p s.rows) ∙ same_state o s state

-- ---- rows at keys that aren't done

filter_cut : (p : Program) (c done : Datum → Bool) (rows : List Row) → ((j : Datum) → c j ≡ true → done j ≡ false) → filter (λ r. c r.0) (cut p done rows) ≡ filter (λ r. c r.0) rows
filter_cut p c done [] other = refl
filter_cut p c done (r ∷ rows) other =
    by_test (c r.0) _
    (λ holds. let fresh = other r.0 holds in rw (holds, fresh) (ap (λ (rs : List Row). r ∷ rs) (filter_cut p c done rows other)))
    (λ fails. rw fails (filter_cut p c done rows other))

filter_live : (p : Program) (c done : Datum → Bool) (rows : List Row) → ((j : Datum) → c j ≡ true → done j ≡ false) → All (λ r. IsTrue (is_live r)) rows → filter (λ r. c r.0) (filter is_live (cut p done rows)) ≡ filter (λ r. c r.0) rows
filter_live p c done [] other live = refl
filter_live p c done (r ∷ rows) other live =
    of (c r.0) (is_live (r.0, cut_objects p (done r.0) r.1)) refl refl (filter_live p c done rows other (All-tail (λ (v : Row). IsTrue (is_live v)) r rows live)) (All-head (λ (v : Row). IsTrue (is_live v)) r rows live)
  where
    of : (a l : Bool) → c r.0 ≡ a → is_live (r.0, cut_objects p (done r.0) r.1) ≡ l → filter (λ v. c v.0) (filter is_live (cut p done rows)) ≡ filter (λ v. c v.0) rows → is_live r ≡ true
        → filter (λ v. c v.0) (filter is_live (cut p done (r ∷ rows))) ≡ filter (λ v. c v.0) (r ∷ rows)
    of false true passes lives more here = rw (lives, passes) more
    of false false passes dead more here = rw (dead, passes) more
    of true l passes lives more here =
        let fresh : done r.0 ≡ false = other r.0 passes in
        rw fresh (rw (here, passes) (ap (λ (rs : List Row). r ∷ rs) more))

-- keys that aren't done have the rows that they had
pub rows_stay : (p : Program) (c done : Datum → Bool) (fixes : List ℕ) (rows : List Row) → ((j : Datum) → c j ≡ true → done j ≡ false) → (is_fixed fixes ≡ false → All (λ r. IsTrue (is_live r)) rows)
    → filter (λ r. c r.0) (kept_rows fixes (cut p done rows)) ≡ filter (λ r. c r.0) rows
rows_stay p c done fixes rows other live =
    by_test (is_fixed fixes) _ (λ fixed. rw fixed (filter_cut p c done rows other)) (λ free. rw free (filter_live p c done rows other (live free)))

-- ---- rows at more keys

filter_twice : (q : Datum → Bool) (xs : List Datum) → filter q (filter q xs) ≡ filter q xs
filter_twice q [] = refl
filter_twice q (x ∷ xs) = by_test (q x) _ (λ holds. rw holds (rw holds (ap (λ (ys : List Datum). x ∷ ys) (filter_twice q xs)))) (λ fails. rw fails (filter_twice q xs))

cut_twice : (p : Program) (a b : Bool) (os : List Datum) → cut_objects p b (cut_objects p a os) ≡ cut_objects p (a || b) os
cut_twice p true true os = filter_twice (λ t. not (is_true p t)) os
cut_twice p true false os = refl
cut_twice p false b os = refl

cut_more : (p : Program) (done more : Datum → Bool) (rows : List Row) → cut p more (cut p done rows) ≡ cut p (λ j. done j || more j) rows
cut_more p done more [] = refl
cut_more p done more (r ∷ rows) =
    ap (λ (os : List Datum). (r.0, os) ∷ cut p more (cut p done rows)) (cut_twice p (done r.0) (more r.0) r.1)
    ∙ ap (λ (rs : List Row). (r.0, cut_objects p (done r.0 || more r.0) r.1) ∷ rs) (cut_more p done more rows)

cut_empty : (p : Program) (b : Bool) (os : List Datum) → is_empty os ≡ true → is_empty (cut_objects p b os) ≡ true
cut_empty p true [] none = refl
cut_empty p false [] none = refl
cut_empty p b (x ∷ os) none = cc

live_more : (p : Program) (done more : Datum → Bool) (rows : List Row) → filter is_live (cut p more (filter is_live (cut p done rows))) ≡ filter is_live (cut p more (cut p done rows))
live_more p done more [] = refl
live_more p done more (r ∷ rows) = of (is_empty (cut_objects p (done r.0) r.1)) (is_empty (cut_objects p (more r.0) (cut_objects p (done r.0) r.1))) refl refl (live_more p done more rows)
  where
    of : (a b : Bool) → is_empty (cut_objects p (done r.0) r.1) ≡ a → is_empty (cut_objects p (more r.0) (cut_objects p (done r.0) r.1)) ≡ b
        → filter is_live (cut p more (filter is_live (cut p done rows))) ≡ filter is_live (cut p more (cut p done rows))
        → filter is_live (cut p more (filter is_live (cut p done (r ∷ rows)))) ≡ filter is_live (cut p more (cut p done (r ∷ rows)))
    of true b dead is rest =
        let gone : is_empty (cut_objects p (more r.0) (cut_objects p (done r.0) r.1)) ≡ true = cut_empty p (more r.0) (cut_objects p (done r.0) r.1) dead in
        rw (dead, gone) rest
    of false true lives gone rest = rw lives (rw gone rest)
    of false false lives stays rest = rw lives (rw stays (ap (λ (rs : List Row). (r.0, cut_objects p (more r.0) (cut_objects p (done r.0) r.1)) ∷ rs) rest))

pub cut_on : (p : Program) (done more : Datum → Bool) (fixes : List ℕ) (rows : List Row) → kept_rows fixes (cut p more (kept_rows fixes (cut p done rows))) ≡ kept_rows fixes (cut p (λ j. done j || more j) rows)
cut_on p done more fixes rows =
    by_test (is_fixed fixes) _ (λ fixed. rw fixed (cut_more p done more rows))
    (λ free. rw free (live_more p done more rows ∙ ap (filter is_live) (cut_more p done more rows)))

cut_same : (p : Program) (c d : Datum → Bool) (rows : List Row) → All (λ r. c r.0 ≡ d r.0) rows → cut p c rows ≡ cut p d rows
cut_same p c d [] same = refl
cut_same p c d (r ∷ rows) same =
    ap (λ (b : Bool). (r.0, cut_objects p b r.1) ∷ cut p c rows) (All-head (λ (v : Row). c v.0 ≡ d v.0) r rows same)
    ∙ ap (λ (rs : List Row). (r.0, cut_objects p (d r.0) r.1) ∷ rs) (cut_same p c d rows (All-tail (λ (v : Row). c v.0 ≡ d v.0) r rows same))

-- deleting at the keys of some rows is deleting at the keys that select these rows
among_rows : (p : Program) (c : Datum → Bool) (rows : List Row) → cut p (λ j. list_any (is_same j) (keys_of (filter (λ r. c r.0) rows))) rows ≡ cut p c rows
among_rows p c rows =
    cut_same p (λ j. list_any (is_same j) (keys_of (filter (λ (r : Row). c r.0) rows))) c rows
    (All-weaker (λ (r : Row). IsTrue (has_row rows r.0)) (λ (r : Row). list_any (is_same r.0) (keys_of (filter (λ (v : Row). c v.0) rows)) ≡ c r.0) (λ r there. among_passing c rows r.0 there) rows (rows_there rows))

-- ---- a visit that deletes

-- the state after a visit that deletes, starting from one in which objects are deleted already
pub deleted_after : (o : Settings) (p : Program) (done : Datum → Bool) (s x : PartState) (n : ℕ) (scope : Scope) (wanted : ℕ) (said : Said) → IsState o s → IsState o x → x ≡ cut_state o p done s
    → IsTrue (is_inside o x scope) → reply_of o x n (Visit Deletes p scope wanted) ≡ Replied said
    → after o x n (Visit Deletes p scope wanted) ≡ cut_state o p (λ j. done j || covers o scope (next_of o x Deletes p scope wanted) j) s
deleted_after o p done s x n scope wanted said state met is inside replied =
    let c : Datum → Bool = λ j. covers o scope (next_of o x Deletes p scope wanted) j in
    let shows : x ≡ record { rows = kept_rows s.fixes (cut p done s.rows); fixes = s.fixes; slots = s.slots; base = s.base } = is ∙ cut_shows o p done s state in
    after_replied o x n (Visit Deletes p scope wanted) said replied
    ∙ ap (λ (rows : List Row). state_with o x (cut p (λ j. list_any (is_same j) (keys_of rows)) x.rows) x.fixes) (visited_is_covered o x Deletes p scope wanted met inside)
    ∙ ap (λ (rows : List Row). state_with o x rows x.fixes) (among_rows p c x.rows)
    ∙ cut_shows o p c x met
    ∙ ap (λ (y : PartState). record { rows = kept_rows y.fixes (cut p c y.rows); fixes = y.fixes; slots = y.slots; base = y.base }) shows
    ∙ ap (λ (rows : List Row). record { rows = rows; fixes = s.fixes; slots = s.slots; base = s.base }) (cut_on p done c s.fixes s.rows)
    ∙ sym (cut_shows o p (λ j. done j || c j) s state)
