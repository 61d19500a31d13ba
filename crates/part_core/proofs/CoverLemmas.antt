-- A visit answers for the keys that it covers.
use Rattle.std.proofs.Common.{◌≡◌, ℕ, List, [], ◌∷◌, ◌++◌, ◌+◌, refl, ap, sym, subst, ◌∙◌, inl, inr}
use Rattle.std.specs.Prelude.{Bool, true, false, if◌then◌else◌, nat_lt, IsTrue, Option, Some, None, option_map, filter, flat_map, All}
use Rattle.std.specs.List.{IsDistinct, AllByRecursion, last_or}
use Rattle.std.specs.Map.{keys_of}
use Rattle.std.proofs.lemmas.List.Elements.{All-nil, All-cons, All-head, All-tail, All-map, All-filter, All-weaker, All-from_recursion, recursion_from_All, filter_passes}
use Rattle.std.proofs.lemmas.Map.Keys.{IsDistinct-head, IsDistinct-tail}
use Rattle.std.proofs.lemmas.Map.Made.{IsDistinct-keys_filter, AllPairs-from_IsDistinct, is_member-Decides}
use Rattle.term_core.specs.Datum.{Datum}
use Rattle.term_operand.specs.Order.{is_same}
use Rattle.mcode.specs.Program.{Program}
use Rattle.part_core.specs.declared.settings.Settings.{Settings}
use Rattle.part_core.specs.Acts.{Purpose, Cursor, Scope, Said, History, next_in}
use Rattle.part_core.specs.Acts.Purpose.{Answers, Counts, Deletes}
use Rattle.part_core.specs.Acts.Act.{Visit}
use Rattle.part_core.specs.Acts.Answer.{Replied}
use Rattle.part_core.specs.Rows.{Row, PartState, opening, objects_at, has_row}
use Rattle.part_core.specs.Settings.{is_ordered}
use Rattle.part_core.specs.Acts.Cursor.{Class, Behind}
use Rattle.part_core.specs.Acts.Scope.{Begin, After, Named}
use Rattle.part_core.specs.Visits.{yields, yield_of_rows, visited_rows, answers_of, next_class, next_key, next_of}
use Rattle.part_core.specs.Replies.{said_by_visit, yield_of}
use Rattle.part_core.specs.Covers.{covers}
use Rattle.part_core.specs.Content.{content}
use Rattle.part_core.specs.Yields.{Yields}
use Rattle.part_core.specs.Laws.{IsSaidByVisit}
use Rattle.part_core.specs.Legal.{state_after, IsLegal}
use Rattle.part_core.proofs.KeyLemmas.{by_test, same_keys, same_from, same_decides}
use Rattle.part_core.proofs.RowLemmas.{no_objects, among_passing}
use Rattle.part_core.proofs.StateLemmas.{visited_is_covered, visit_said}
use Rattle.part_core.proofs.HistoryLemmas.{legal_front_from, legal_rest_from, state_of, content_of}

-- each row is found by its key
pub rows_found : (rows : List Row) → IsDistinct is_same (keys_of rows) → All (λ r. objects_at rows r.0 ≡ r.1) rows
rows_found [] d = All-nil (λ (r : Row). objects_at [] r.0 ≡ r.1)
rows_found (r ∷ rows) d =
    All-cons (λ (v : Row). objects_at (r ∷ rows) v.0 ≡ v.1) r rows (rw (same_from r.0 r.0 refl) refl)
    (All-from_recursion (λ (v : Row). objects_at (r ∷ rows) v.0 ≡ v.1) rows (later rows (IsDistinct-head is_same r.0 (keys_of rows) d) (recursion_from_All (λ (v : Row). objects_at rows v.0 ≡ v.1) rows (rows_found rows (IsDistinct-tail is_same r.0 (keys_of rows) d)))))
  where
    later : (vs : List Row) → AllByRecursion (λ k. is_same r.0 k ≡ false) (keys_of vs) → AllByRecursion (λ (v : Row). objects_at rows v.0 ≡ v.1) vs → AllByRecursion (λ (v : Row). objects_at (r ∷ rows) v.0 ≡ v.1) vs
    later [] apart found = tt
    later (v ∷ vs) apart found =
        let other : is_same v.0 r.0 ≡ false = same_keys.symm v.0 r.0 ∙ apart.0 in (rw other found.0, later vs apart.1 found.1)

-- rows yield what the objects of their keys yield
by_keys : (f : List Datum → List Datum) (g : Datum → List Datum) (vs : List Row) → All (λ v. g v.0 ≡ v.1) vs → flat_map (λ (v : Row). f v.1) vs ≡ flat_map (λ k. f (g k)) (keys_of vs)
by_keys f g [] a = refl
by_keys f g (v ∷ vs) a =
    ap (λ os. f os ++ flat_map (λ (w : Row). f w.1) vs) (sym (All-head (λ (w : Row). g w.0 ≡ w.1) v vs a)) ∙ ap (λ ys. f (g v.0) ++ ys) (by_keys f g vs (All-tail (λ (w : Row). g w.0 ≡ w.1) v vs a))

no_yield : (purpose : Purpose) (p : Program) → yields purpose p [] ≡ []
no_yield Answers p = refl
no_yield Counts p = refl
no_yield Deletes p = refl

-- rows that a test of keys selects yield what the content of these keys does
yields_of : (o : Settings) (past : History) (purpose : Purpose) (p : Program) (c : Datum → Bool) → IsLegal o past → Yields o past purpose p c (yield_of_rows purpose p (filter (λ (r : Row). c r.0) (state_after o past).rows))
yields_of o past purpose p c legal = record {
  keys = keys_of picked;
  apart = AllPairs-from_IsDistinct same_decides (keys_of picked) (IsDistinct-keys_filter is_same (λ (r : Row). c r.0) rows distinct);
  covered = All-map (λ k. IsTrue (c k)) (λ (r : Row). r.0) picked (filter_passes (λ (r : Row). c r.0) rows);
  sum = by_keys (yields purpose p) (λ k. content o k past) picked (All-filter (λ (r : Row). c r.0) (λ (r : Row). content o r.0 past ≡ r.1) rows (All-weaker (λ (r : Row). objects_at rows r.0 ≡ r.1) (λ (r : Row). content o r.0 past ≡ r.1) (λ r found. sym (content_of o past r.0 legal) ∙ found) rows (rows_found rows distinct)));
  silent = λ k covered. by_test (has_row rows k) _
      (λ there. inl ((is_member-Decides same_decides (keys_of picked) k).0 (among_passing c rows k there ∙ covered)))
      (λ none. inr (ap (yields purpose p) (sym (content_of o past k legal) ∙ no_objects rows k none) ∙ no_yield purpose p));
}
  where
    rows : List Row
    rows = (state_after o past).rows

    picked : List Row
    picked = filter (λ (r : Row). c r.0) (state_after o past).rows

    distinct : IsDistinct is_same (keys_of (state_after o past).rows)
    distinct = (state_of o past legal).rows.distinct

next_is : (purpose : Purpose) (found : List Datum) (next : Option Cursor) → next_in (said_by_visit purpose found next) ≡ next
next_is Answers found next = refl
next_is Counts found next = refl
next_is Deletes found next = refl

pub visit_yields : (o : Settings) (past : History) (n : ℕ) (purpose : Purpose) (p : Program) (scope : Scope) (wanted : ℕ) (said : Said) → IsLegal o (past ++ (record { session = n; act = Visit purpose p scope wanted; answer = Replied said }) ∷ []) → IsSaidByVisit o past purpose p scope wanted said
visit_yields o past n purpose p scope wanted said legal =
    let front : IsLegal o past = legal_front_from o (opening o) past _ legal in
    let right = (legal_rest_from o (opening o) past _ legal).0 in
    let is = visit_said o (state_after o past) n purpose p scope wanted said (sym right.answer) in
    let next : next_in said ≡ next_of o (state_after o past) purpose p scope wanted = ap next_in (sym is.1) ∙ next_is purpose (yield_of o (state_after o past) purpose p scope wanted) (next_of o (state_after o past) purpose p scope wanted) in
    let looked = visited_is_covered o (state_after o past) purpose p scope wanted (state_of o past front) is.0 in
    record {
      inside = is.0;
      next = next;
      says = sym is.1 ∙ ap (said_by_visit purpose (yield_of o (state_after o past) purpose p scope wanted)) (sym next);
      yields = subst (λ (at : Option Cursor). Yields o past purpose p (covers o scope at) (yield_of o (state_after o past) purpose p scope wanted)) (sym next)
          (subst (λ (vs : List Row). Yields o past purpose p (covers o scope (next_of o (state_after o past) purpose p scope wanted)) (yield_of_rows purpose p vs)) (sym looked)
          (yields_of o past purpose p (covers o scope (next_of o (state_after o past) purpose p scope wanted)) front));
    }

-- what holds of all rows holds of the last
of_last : (P : Row → Type 0) (before : Option Row) (vs : List Row) (r : Row) → (before ≡ Some r → P r) → All P vs → last_or before vs ≡ Some r → P r
of_last P before [] r h a e = h e
of_last P before (v ∷ vs) r h a e =
    of_last P (Some v) vs r (λ same. let is : v ≡ r = cc in subst P is (All-head P v vs a)) (All-tail P v vs a) e

at_last : (P : Datum → Type 0) (b : Bool) (k : Datum) (vs : List Row) → All (λ (r : Row). P r.0) vs → (if b then option_map (λ (r : Row). Behind r.0) (last_or None vs) else None) ≡ Some (Behind k) → P k
at_last P false k vs a e = cc
at_last P true k vs a e = of (last_or None vs) refl e
  where
    of : (found : Option Row) → last_or None vs ≡ found → option_map (λ (r : Row). Behind r.0) found ≡ Some (Behind k) → P k
    of None is h = cc
    of (Some r) is h =
        let same : r.0 ≡ k = cc in subst P same (of_last (λ (v : Row). P v.0) None vs r (λ no. cc) a is)

-- where a walk of an ordered set goes on, a property of each row that was looked at holds of the last row
next_holds : (P : Datum → Type 0) (o : Settings) (s : PartState) (purpose : Purpose) (p : Program) (scope : Scope) (wanted : ℕ) (k : Datum) → All (λ (r : Row). P r.0) (visited_rows o s purpose p scope wanted) → next_of o s purpose p scope wanted ≡ Some (Behind k) → P k
next_holds P o s purpose p (Named j) wanted k a e = cc
next_holds P o s purpose p (After (Class base class)) wanted k a e = no (nat_lt (class + 1) base) e
  where
    no : (b : Bool) → (if b then Some (Class base (class + 1)) else None) ≡ Some (Behind k) → P k
    no true h = cc
    no false h = cc
next_holds P o s purpose p (After (Behind j)) wanted k a e = at_last P _ k _ a e
next_holds P o s purpose p Begin wanted k a e =
    of (is_ordered o.kind) refl e
  where
    of : (b : Bool) → is_ordered o.kind ≡ b → (if b then next_key (answers_of purpose p) wanted (visited_rows o s purpose p Begin wanted) else next_class s.base 0) ≡ Some (Behind k) → P k
    of true is h = at_last P _ k _ a h
    of false is h = none (nat_lt (0 + 1) s.base) h
      where
        none : (b : Bool) → (if b then Some (Class s.base (0 + 1)) else None) ≡ Some (Behind k) → P k
        none true h = cc
        none false h = cc

-- each key of the rows has a row
pub rows_there : (rows : List Row) → All (λ (r : Row). IsTrue (has_row rows r.0)) rows
rows_there [] = All-nil (λ (v : Row). IsTrue (has_row [] v.0))
rows_there (r ∷ rows) =
    All-cons (λ (v : Row). IsTrue (has_row (r ∷ rows) v.0)) r rows (rw (same_from r.0 r.0 refl) refl)
    (All-weaker (λ (v : Row). IsTrue (has_row rows v.0)) (λ (v : Row). IsTrue (has_row (r ∷ rows) v.0)) (λ v h. by_test (is_same v.0 r.0) _ (λ holds. rw holds refl) (λ fails. rw fails h)) rows (rows_there rows))

pub visit_moves : (o : Settings) (past : History) (n : ℕ) (purpose : Purpose) (p : Program) (scope : Scope) (wanted : ℕ) (said : Said) (k : Datum) → IsLegal o (past ++ (record { session = n; act = Visit purpose p scope wanted; answer = Replied said }) ∷ []) → next_in said ≡ Some (Behind k) → IsTrue (has_row (state_after o past).rows k) × IsTrue (covers o scope (next_in said) k)
visit_moves o past n purpose p scope wanted said k legal stops =
    let front : IsLegal o past = legal_front_from o (opening o) past _ legal in
    let right = (legal_rest_from o (opening o) past _ legal).0 in
    let is = visit_said o (state_after o past) n purpose p scope wanted said (sym right.answer) in
    let next : next_of o (state_after o past) purpose p scope wanted ≡ next_in said = sym (next_is purpose (yield_of o (state_after o past) purpose p scope wanted) (next_of o (state_after o past) purpose p scope wanted)) ∙ ap next_in is.1 in
    let looked = visited_is_covered o (state_after o past) purpose p scope wanted (state_of o past front) is.0 in
    let there : All (λ (r : Row). IsTrue (has_row (state_after o past).rows r.0)) (visited_rows o (state_after o past) purpose p scope wanted) = subst (λ (vs : List Row). All (λ (r : Row). IsTrue (has_row (state_after o past).rows r.0)) vs) (sym looked) (All-filter (λ (r : Row). covers o scope (next_of o (state_after o past) purpose p scope wanted) r.0) (λ (r : Row). IsTrue (has_row (state_after o past).rows r.0)) (state_after o past).rows (rows_there (state_after o past).rows)) in
    let passed : All (λ (r : Row). IsTrue (covers o scope (next_of o (state_after o past) purpose p scope wanted) r.0)) (visited_rows o (state_after o past) purpose p scope wanted) = subst (λ (vs : List Row). All (λ (r : Row). IsTrue (covers o scope (next_of o (state_after o past) purpose p scope wanted) r.0)) vs) (sym looked) (filter_passes (λ (r : Row). covers o scope (next_of o (state_after o past) purpose p scope wanted) r.0) (state_after o past).rows) in (
      next_holds (λ j. IsTrue (has_row (state_after o past).rows j)) o (state_after o past) purpose p scope wanted k there (next ∙ stops),
      subst (λ (at : Option Cursor). IsTrue (covers o scope at k)) next (next_holds (λ j. IsTrue (covers o scope (next_of o (state_after o past) purpose p scope wanted) j)) o (state_after o past) purpose p scope wanted k passed (next ∙ stops)),
    )
