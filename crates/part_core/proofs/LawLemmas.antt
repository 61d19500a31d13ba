-- Where visits lead, and which cursors stay the part's; and that no object is at another part than its key's.
use Rattle.std.proofs.Common.{◌≡◌, ◌≢◌, ℕ, ◌<◌, ◌≤◌, ◌+◌, List, [], ◌∷◌, ◌++◌, refl, ap, sym, subst, ◌∙◌, inl, inr, arith, lt-ltb}
use Rattle.std.specs.Prelude.{Bool, true, false, not, ◌||◌, ◌⊎◌, if◌then◌else◌, nat_eq, nat_le, nat_lt, IsTrue, Option, Some, None, option_map, fold, sum_by, All, length}
use Rattle.std.specs.List.{list_any, last_or}
use Rattle.std.proofs.lemmas.Bool.{and_parts, leb-true, le-leb, ltb-true}
use Rattle.std.proofs.lemmas.List.Elements.{All-head, All-tail}
use Rattle.std.proofs.lemmas.List.Folds.{list_any_at}
use Rattle.term_core.specs.Datum.{Datum}
use Rattle.term_operand.specs.Order.{is_same}
use Rattle.mcode.specs.Program.{Program}
use Rattle.part_core.specs.declared.settings.Settings.{Settings}
use Rattle.part_core.specs.Settings.{is_ordered, key_of, part_of}
use Rattle.part_core.specs.Acts.{Purpose, Cursor, Scope, Act, Said, Answer, Entry, History, next_in}
use Rattle.part_core.specs.Acts.Act.{Insert, InsertNew, Delete, DeleteObject, Take, Visit}
use Rattle.part_core.specs.Acts.Answer.{Replied, Refused}
use Rattle.part_core.specs.Acts.Cursor.{Class, Behind}
use Rattle.part_core.specs.Acts.Purpose.{Deletes}
use Rattle.part_core.specs.Acts.Said.{Flag}
use Rattle.part_core.specs.Acts.Scope.{Begin, After, Named}
use Rattle.part_core.specs.Content.{written, content}
use Rattle.part_core.specs.Covers.{covers, is_up_to}
use Rattle.part_core.specs.Laws.{IsPlacedAt, LeadsTo}
use Rattle.part_core.specs.Legal.{state_after, IsLegal, fix_count}
use Rattle.part_core.specs.Replies.{fixes_of}
use Rattle.part_core.specs.Rows.{Row, PartState, opening, is_fixed, objects_with}
use Rattle.part_core.specs.States.{IsState}
use Rattle.part_core.specs.Visits.{answers_of, bases, is_beyond, is_inside, most_rows, next_class, next_key, next_of, visited_rows}
use Rattle.part_core.proofs.CoverLemmas.{visit_yields, visit_moves}
use Rattle.part_core.proofs.HistoryLemmas.{base_over, counts_of, legal_front_from, state_of}
use Rattle.part_core.proofs.KeyLemmas.{by_test, same_is}
use Rattle.part_core.proofs.StateLemmas.{base_least}

-- ---- where a walk goes on

-- after rows, a walk goes on after a key or is at its end
key_next : (answers : Row → ℕ) (wanted : ℕ) (rows : List Row) → (next_key answers wanted rows ≡ None) ⊎ ((k : Datum) × (next_key answers wanted rows ≡ Some (Behind k)))
key_next answers wanted rows = of (nat_le wanted (sum_by answers rows) || nat_eq (length rows) most_rows) (last_or None rows)
  where
    of : (b : Bool) (last : Option Row) → ((if b then option_map (λ (r : Row). Behind r.0) last else None) ≡ None) ⊎ ((k : Datum) × ((if b then option_map (λ (r : Row). Behind r.0) last else None) ≡ Some (Behind k)))
    of false last = inl refl
    of true None = inl refl
    of true (Some r) = inr (r.0, refl)

-- the cursor after a class is never a key
class_next : (base class : ℕ) (k : Datum) → next_class base class ≡ Some (Behind k) → ⊥
class_next base class k e = of (nat_lt (class + 1) base) e
  where
    of : (b : Bool) → (if b then Some (Class base (class + 1)) else None) ≡ Some (Behind k) → ⊥
    of true h = cc
    of false h = cc

inside_class : (o : Settings) (s : PartState) (base class : ℕ) → IsTrue (is_inside o s (After (Class base class))) → (not (is_ordered o.kind) ≡ true) × (list_any (nat_eq base) bases ≡ true) × (base ≤ s.base) × (class < base)
inside_class o s base class inside =
    let kind = and_parts (not (is_ordered o.kind)) _ inside in
    let some = and_parts (list_any (nat_eq base) bases) _ kind.1 in
    let low = and_parts (nat_le base s.base) (nat_lt class base) some.1 in
    (kind.0, some.0, leb-true base s.base low.0, ltb-true class base low.1)

is_inside_class : (o : Settings) (s : PartState) (base class : ℕ) → not (is_ordered o.kind) ≡ true → list_any (nat_eq base) bases ≡ true → base ≤ s.base → class < base → IsTrue (is_inside o s (After (Class base class)))
is_inside_class o s base class kind some low below =
    let le : nat_le base s.base ≡ true = le-leb base s.base low in
    let lt : nat_lt class base ≡ true = lt-ltb class base below in
    rw (kind, some, le, lt) refl

first_class : (base : ℕ) → 8 ≤ base → next_class base 0 ≡ Some (Class base 1)
first_class base most = let further : nat_lt 1 base ≡ true = lt-ltb 1 base (omega (arith, most)) in rw further refl

picked : (b : Bool) → b ≡ true → (x y : Option Cursor) → (if b then x else y) ≡ x
picked true h x y = refl
picked false h x y = cc

-- where a walk goes on from a scope, by the state
led : (o : Settings) (s : PartState) (purpose : Purpose) (p : Program) (scope : Scope) (wanted : ℕ) (next : Option Cursor) → IsState o s → IsTrue (is_inside o s scope) → next ≡ next_of o s purpose p scope wanted → ((k : Datum) → next ≡ Some (Behind k) → IsTrue (covers o scope next k)) → LeadsTo o s.base scope next
led o s purpose p (Named j) wanted next state inside is moves = is
led o s purpose p (After (Class base class)) wanted next state inside is moves =
    let parts = inside_class o s base class inside in (parts.3, is)
led o s purpose p (After (Behind j)) wanted next state inside is moves =
    of (key_next (answers_of purpose p) wanted (visited_rows o s purpose p (After (Behind j)) wanted))
  where
    of : (next_key (answers_of purpose p) wanted (visited_rows o s purpose p (After (Behind j)) wanted) ≡ None) ⊎ ((k : Datum) × (next_key (answers_of purpose p) wanted (visited_rows o s purpose p (After (Behind j)) wanted) ≡ Some (Behind k))) → LeadsTo o s.base (After (Behind j)) next
    of (inl none) = inl (is ∙ none)
    of (inr (k, some)) = inr (k, is ∙ some, (and_parts (is_beyond j k) (is_up_to o next k) (moves k (is ∙ some))).0)
led o s purpose p Begin wanted next state inside is moves = (
  (λ plain. is ∙ rw plain (first_class s.base (base_least s.base state.base.0))),
  (λ ordered. of ordered (key_next (answers_of purpose p) wanted (visited_rows o s purpose p Begin wanted))),
)
  where
    of : IsTrue (is_ordered o.kind) → (next_key (answers_of purpose p) wanted (visited_rows o s purpose p Begin wanted) ≡ None) ⊎ ((k : Datum) × (next_key (answers_of purpose p) wanted (visited_rows o s purpose p Begin wanted) ≡ Some (Behind k))) → (next ≡ None) ⊎ ((k : Datum) × (next ≡ Some (Behind k)))
    of ordered (inl none) = inl (is ∙ chosen ∙ none)
      where
        chosen : next_of o s purpose p Begin wanted ≡ next_key (answers_of purpose p) wanted (visited_rows o s purpose p Begin wanted)
        chosen = picked (is_ordered o.kind) ordered _ _
    of ordered (inr (k, some)) = inr (k, is ∙ chosen ∙ some)
      where
        chosen : next_of o s purpose p Begin wanted ≡ next_key (answers_of purpose p) wanted (visited_rows o s purpose p Begin wanted)
        chosen = picked (is_ordered o.kind) ordered _ _

pub visits_led : (o : Settings) (past : History) (n : ℕ) (purpose : Purpose) (p : Program) (scope : Scope) (wanted : ℕ) (said : Said) → IsLegal o (past ++ (record { session = n; act = Visit purpose p scope wanted; answer = Replied said }) ∷ []) → LeadsTo o (state_after o past).base scope (next_in said)
visits_led o past n purpose p scope wanted said legal =
    let says = visit_yields o past n purpose p scope wanted said legal in
    led o (state_after o past) purpose p scope wanted (next_in said) (state_of o past (legal_front_from o (opening o) past _ legal)) says.inside says.next
    (λ k stops. (visit_moves o past n purpose p scope wanted said k legal stops).1)

-- ---- cursors that are the part's

inside_higher : (o : Settings) (s t : PartState) (scope : Scope) → s.base ≤ t.base → IsTrue (is_inside o s scope) → IsTrue (is_inside o t scope)
inside_higher o s t Begin up inside = refl
inside_higher o s t (Named k) up inside = refl
inside_higher o s t (After (Behind k)) up inside = inside
inside_higher o s t (After (Class base class)) up inside =
    let parts = inside_class o s base class inside in
    is_inside_class o t base class parts.0 parts.1 (omega (arith, parts.2, up)) parts.3

pub inside_stays : (o : Settings) (past more : History) (scope : Scope) → IsLegal o (past ++ more) → IsTrue (is_inside o (state_after o past) scope) → IsTrue (is_inside o (state_after o (past ++ more)) scope)
inside_stays o past more scope legal inside =
    inside_higher o (state_after o past) (state_after o (past ++ more)) scope (base_over o past more legal).0 inside

next_inside : (o : Settings) (s : PartState) (scope : Scope) (at : Cursor) → IsState o s → IsTrue (is_inside o s scope) → LeadsTo o s.base scope (Some at) → IsTrue (is_inside o s (After at))
next_inside o s (Named k) at state inside leads = cc
next_inside o s (After (Class base class)) at state inside leads = of (nat_lt (class + 1) base) refl leads.1
  where
    of : (b : Bool) → nat_lt (class + 1) base ≡ b → Some at ≡ (if b then Some (Class base (class + 1)) else None) → IsTrue (is_inside o s (After at))
    of true below is =
        let same : at ≡ Class base (class + 1) = cc in
        let parts = inside_class o s base class inside in
        subst (λ (c : Cursor). IsTrue (is_inside o s (After c))) (sym same) (is_inside_class o s base (class + 1) parts.0 parts.1 parts.2 (ltb-true (class + 1) base below))
    of false end is = cc
next_inside o s (After (Behind j)) at state inside (inl none) = cc
next_inside o s (After (Behind j)) at state inside (inr (k, is, further)) =
    let same : at ≡ Behind k = cc in subst (λ (c : Cursor). IsTrue (is_inside o s (After c))) (sym same) inside
next_inside o s Begin at state inside leads = of (is_ordered o.kind) refl
  where
    ordered_at : IsTrue (is_ordered o.kind) → (Some at ≡ None) ⊎ ((k : Datum) × (Some at ≡ Some (Behind k))) → IsTrue (is_inside o s (After at))
    ordered_at is (inl none) = cc
    ordered_at is (inr (k, some)) =
        let same : at ≡ Behind k = cc in subst (λ (c : Cursor). IsTrue (is_inside o s (After c))) (sym same) is

    of : (b : Bool) → is_ordered o.kind ≡ b → IsTrue (is_inside o s (After at))
    of true is = ordered_at is (leads.1 is)
    of false is =
        let some : Some at ≡ Some (Class s.base 1) = leads.0 is in
        let same : at ≡ Class s.base 1 = cc in
        let kind : not (is_ordered o.kind) ≡ true = rw is refl in
        subst (λ (c : Cursor). IsTrue (is_inside o s (After c))) (sym same) (is_inside_class o s s.base 1 kind state.base.0 (omega arith) (omega (arith, base_least s.base state.base.0)))

pub visits_led_inside : (o : Settings) (past : History) (n : ℕ) (purpose : Purpose) (p : Program) (scope : Scope) (wanted : ℕ) (said : Said) (at : Cursor) → IsLegal o (past ++ (record { session = n; act = Visit purpose p scope wanted; answer = Replied said }) ∷ []) → next_in said ≡ Some at → IsTrue (is_inside o (state_after o past) (After at))
visits_led_inside o past n purpose p scope wanted said at legal goes =
    let says = visit_yields o past n purpose p scope wanted said legal in
    next_inside o (state_after o past) scope at (state_of o past (legal_front_from o (opening o) past _ legal)) says.inside
    (subst (LeadsTo o (state_after o past).base scope) goes (visits_led o past n purpose p scope wanted said legal))

-- ---- keys of other parts

either_none : (b : Bool) → (if b then [] else []) ≡ (let none : List Datum = [] in none)
either_none true = refl
either_none false = refl

-- an object of a key of one part writes nothing at a key of another part
other_written : (o : Settings) (part : ℕ) (t k : Datum) (os : List Datum) → part_of o (key_of o t) ≡ part → part_of o k ≢ part → (if is_same (key_of o t) k then os else []) ≡ []
other_written o part t k os placed other =
    by_test (is_same (key_of o t) k) _
    (λ same. absurd (other (ap (part_of o) (sym (same_is (key_of o t) k same)) ∙ placed)))
    (λ apart. rw apart refl)

none_written : (o : Settings) (part : ℕ) (k : Datum) (act : Act) (answer : Answer) → IsPlacedAt o part act → part_of o k ≢ part → written o k [] act answer ≡ []
none_written o part k (Insert t) (Replied said) placed other = other_written o part t k (objects_with o.kind [] t) placed other
none_written o part k (InsertNew t) (Replied (Flag true)) placed other = other_written o part t k (objects_with o.kind [] t) placed other
none_written o part k (Delete j) (Replied said) placed other = either_none (is_same j k)
none_written o part k (DeleteObject t) (Replied said) placed other = either_none (is_same (key_of o t) k)
none_written o part k (Take j) (Replied said) placed other = either_none (is_same j k)
none_written o part k (Visit Deletes p scope wanted) (Replied said) placed other = either_none (covers o scope (next_in said) k)
none_written o part k (Visit Deletes p scope wanted) (Refused refusal) placed other = refl
none_written o part k act answer placed other = refl

pub none_elsewhere : (o : Settings) (part : ℕ) (log : History) (k : Datum) → All (λ e. IsPlacedAt o part e.act) log → part_of o k ≢ part → content o k log ≡ []
none_elsewhere o part [] k placed other = refl
none_elsewhere o part (e ∷ log) k placed other =
    ap (λ os. fold (λ (us : List Datum) (x : Entry). written o k us x.act x.answer) os log) (none_written o part k e.act e.answer (All-head (λ (x : Entry). IsPlacedAt o part x.act) e log placed) other)
    ∙ none_elsewhere o part log k (All-tail (λ (x : Entry). IsPlacedAt o part x.act) e log placed) other

-- ---- a session that fixes

pub fixes_show : (o : Settings) (log : History) (n : ℕ) → IsLegal o log → n < o.sessions → 0 < fix_count n log → IsTrue (is_fixed (state_after o log).fixes)
fixes_show o log n legal within some =
    let count : fixes_of (state_after o log) n ≡ fix_count n log = counts_of o log n legal within in
    let long : length (state_after o log).fixes ≡ o.sessions = (state_of o log legal).sessions in
    list_any_at (nat_lt 0) (state_after o log).fixes n 0 (omega (arith, within, long)) (lt-ltb 0 _ (omega (arith, some, count)))
