-- Which keys of each part a walk that deletes has done, and that a visit looks at others.
use Rattle.std.proofs.Common.{◌≡◌, ◌≢◌, ◌<◌, ◌+◌, ℕ, Some, None, Option, refl, sym, subst, ◌∙◌, ap, arith, lt-ltb}
use Rattle.std.proofs.Math.Path.{fun_ext}
use Rattle.std.specs.Prelude.{IsTrue, Bool, true, false, not, ◌||◌, ◌&&◌, ◌==◌, if◌then◌else◌, nat_lt, nat_le, filter, List}
use Rattle.std.specs.List.{list_any}
use Rattle.std.proofs.lemmas.Bool.{eqb-true, ltb-true, ltb-false, le-leb, le-ltb, ne_eqb, eq-eqb}
use Rattle.term_core.specs.Datum.{Datum}
use Rattle.term_operand.specs.Order.{is_same}
use Rattle.mcode.specs.Program.{Program}
use Rattle.part_core.specs.declared.settings.Settings.{Settings}
use Rattle.part_core.specs.Acts.{Cursor, Scope, History}
use Rattle.part_core.specs.Acts.Cursor.{Class, Behind}
use Rattle.part_core.specs.Acts.Scope.{Begin, After, Named}
use Rattle.part_core.specs.Acts.Purpose.{Deletes}
use Rattle.part_core.specs.Covers.{covers}
use Rattle.part_core.specs.Laws.{LeadsTo}
use Rattle.part_core.specs.Legal.{state_after}
use Rattle.part_core.specs.Replies.{yield_of}
use Rattle.part_core.specs.Rows.{Row, PartState}
use Rattle.part_core.specs.Settings.{class_at, part_of}
use Rattle.part_core.specs.States.{IsState}
use Rattle.part_core.specs.Visits.{answers_of, is_beyond, is_inside, most_rows, next_key, next_of, following_rows, rows_up_to, yield_of_rows}
use Rattle.part_core.proofs.KeyLemmas.{by_test}
use Rattle.tables.specs.declared.options.Options.{Options}
use Rattle.tables.specs.Options.{settings_of}
use Rattle.walk_core.specs.Walk.{Walk, Position, at_part, is_covered, is_done, is_named_below, is_passed, position_in, scope_from}
use Rattle.walk_core.specs.Walk.Position.{InPart, AtNamed, Over}
use Rattle.walk_core.proofs.PositionLemmas.{done_next}
use Rattle.walks.proofs.CutLemmas.{cut_nowhere, cut_shows, cut_state, rows_stay}

-- the walk meets a key of a part: any key, or, if keys are named, one of these, in its own part
abbrev pub met_in : Settings → Option (List Datum) → ℕ → Datum → Bool
met_in o None k = λ j. true
met_in o (Some ks) k = λ j. (part_of o j == k) && list_any (is_same j) ks

-- the walk has done the key: all keys of the parts before, and those that its cursor has passed; or the first named ones
abbrev pub done_in : Settings → Option (List Datum) → Position → ℕ → Datum → Bool
done_in o plan (InPart part cursor) k =
    if nat_lt k part then (λ j. true) else if k == part then is_passed o cursor else (λ j. false)
done_in o plan (AtNamed n) k = λ j. (part_of o j == k) && is_named_below plan n j
done_in o plan Over k = met_in o plan k

-- the keys that a cursor has passed; all keys without a cursor
abbrev pub left_behind : Settings → Option Cursor → Datum → Bool
left_behind o None j = true
left_behind o (Some c) j = is_passed o (Some c) j

-- ---- a visit covers what its cursor passes in addition

not_below : (n : ℕ) → nat_lt n n ≡ false
not_below n = le-ltb n n (omega arith)

itself : (n : ℕ) → (n == n) ≡ true
itself n = eq-eqb n n refl

none_and : (b : Bool) → (b && false) ≡ false
none_and true = refl
none_and false = refl

done_here : (a b e p : Bool) → b ≡ false → e ≡ true → ((a && b) || (e && p)) ≡ p
done_here a b e p below same = rw (below, same) (ap (λ (c : Bool). c || p) (none_and a))

abbrev walk_to : Options → Program → ℕ → Walk
walk_to o p to = record { options = o; number = 0; purpose = Deletes; program = p; plan = None; from = 0; to = to }

pub left_more : (o : Options) (p : Program) (base : ℕ) (cursor next : Option Cursor) (old : History) (j : Datum) → IsTrue (is_inside (settings_of o) (state_after (settings_of o) old) (scope_from cursor)) → LeadsTo (settings_of o) base (scope_from cursor) next
    → left_behind (settings_of o) next j ≡ (is_passed (settings_of o) cursor j || covers (settings_of o) (scope_from cursor) next j)
left_more o p base cursor next old j inside leads =
    let part : ℕ = part_of (settings_of o) j in
    let w = walk_to o p (part + 1) in
    let below = not_below part in
    let same = itself part in
    sym (later next) ∙ done_next w (λ k. old) base (InPart part cursor) next j (refl, omega arith, omega arith, inside) (λ e. cc) leads
    ∙ ap (λ (b : Bool). b || is_covered w (InPart part cursor) next j) (done_here (nat_le 0 part) (nat_lt part part) (part == part) (is_passed (settings_of o) cursor j) below same)
    ∙ ap (λ (b : Bool). is_passed (settings_of o) cursor j || (b && covers (settings_of o) (scope_from cursor) next j)) same
  where
    later : (next : Option Cursor) → is_done (walk_to o p (part_of (settings_of o) j + 1)) (position_in (part_of (settings_of o) j + 1) (part_of (settings_of o) j) next) j ≡ left_behind (settings_of o) next j
    later (Some c) = done_here (nat_le 0 (part_of (settings_of o) j)) _ _ (is_passed (settings_of o) (Some c) j) (not_below (part_of (settings_of o) j)) (itself (part_of (settings_of o) j))
    later None =
        let n : ℕ = part_of (settings_of o) j in
        let over : at_part (n + 1) (n + 1) ≡ Over = rw (not_below (n + 1)) refl in
        let low : nat_lt n (n + 1) ≡ true = lt-ltb n (n + 1) (omega arith) in
        ap (λ (at : Position). is_done (walk_to o p (n + 1)) at j) over ∙ ap (λ (b : Bool). nat_le 0 n && b) low ∙ ap (λ (b : Bool). b && true) (le-leb 0 n (omega arith))

-- ---- the keys that are done after a visit of a part

pub done_at : (o : Settings) (plan : Option (List Datum)) (part : ℕ) (cursor : Option Cursor) → done_in o plan (InPart part cursor) part ≡ is_passed o cursor
done_at o plan part cursor = rw (not_below part, itself part) refl

pub done_more : (o : Settings) (parts part : ℕ) (cursor next : Option Cursor) → ((j : Datum) → left_behind o next j ≡ (is_passed o cursor j || covers o (scope_from cursor) next j))
    → done_in o None (position_in parts part next) part ≡ (λ j. is_passed o cursor j || covers o (scope_from cursor) next j)
done_more o parts part cursor (Some c) more = done_at o None part (Some c) ∙ fun_ext more
done_more o parts part cursor None more = all ∙ fun_ext more
  where
    all : done_in o None (at_part (part + 1) parts) part ≡ (λ j. true)
    all =
        by_test (nat_lt (part + 1) parts) _
        (λ further. let low : nat_lt part (part + 1) ≡ true = lt-ltb part (part + 1) (omega arith) in
        let there : at_part (part + 1) parts ≡ InPart (part + 1) None = rw further refl in
        ap (λ (at : Position). done_in o None at part) there ∙ ap (λ (b : Bool). if b then (λ (j : Datum). true) else if part == part + 1 then is_passed o None else (λ (j : Datum). false)) low)
        (λ last. let over : at_part (part + 1) parts ≡ Over = rw last refl in ap (λ (at : Position). done_in o None at part) over)

-- at the other parts nothing changes
pub done_elsewhere : (o : Settings) (parts part k : ℕ) (cursor next : Option Cursor) → k < parts → k ≢ part → done_in o None (position_in parts part next) k ≡ done_in o None (InPart part cursor) k
done_elsewhere o parts part k cursor (Some c) inside other =
    let apart : (k == part) ≡ false = ne_eqb k part other in
    by_test (nat_lt k part) _ (λ low. rw low refl) (λ high. rw (high, apart) refl)
done_elsewhere o parts part k cursor None inside other =
    by_test (nat_lt (part + 1) parts) _
    (λ further. let there : at_part (part + 1) parts ≡ InPart (part + 1) None = rw further refl in ap (λ (at : Position). done_in o None at k) there ∙ by_part)
    (λ last. let over : at_part (part + 1) parts ≡ Over = rw last refl in
    let low : nat_lt k part ≡ true = lt-ltb k part (omega (arith, ltb-false (part + 1) parts last, inside, other)) in
    ap (λ (at : Position). done_in o None at k) over ∙ sym (ap (λ (b : Bool). if b then (λ (j : Datum). true) else if k == part then is_passed o cursor else (λ (j : Datum). false)) low))
  where
    by_part : done_in o None (InPart (part + 1) None) k ≡ done_in o None (InPart part cursor) k
    by_part =
        by_test (nat_lt k part) _
        (λ low. let lower : nat_lt k (part + 1) ≡ true = lt-ltb k (part + 1) (omega (arith, ltb-true k part low)) in rw (low, lower) refl)
        (λ high. let higher : nat_lt k (part + 1) ≡ false = le-ltb k (part + 1) (omega (arith, ltb-false k part high, other)) in
        let apart : (k == part) ≡ false = ne_eqb k part other in
        rw (high, higher, apart) (either (k == part + 1)))
      where
        either : (b : Bool) → (if b then is_passed o None else (λ (j : Datum). false)) ≡ (λ (j : Datum). false)
        either true = refl
        either false = refl

-- ---- what a visit looks at is as it was

-- a visit finds what it would find if nothing were deleted, and goes on at the same position
pub record SameVisit (o : Settings) (p : Program) (s x : PartState) (scope : Scope) (wanted : ℕ) : Type 0 where
  pub base : x.base ≡ s.base
  pub next : next_of o x Deletes p scope wanted ≡ next_of o s Deletes p scope wanted
  pub found : yield_of o x Deletes p scope wanted ≡ yield_of o s Deletes p scope wanted

pub same_visit : (o : Settings) (p : Program) (s x : PartState) (cursor : Option Cursor) (wanted : ℕ) → IsState o s → x ≡ cut_state o p (is_passed o cursor) s → SameVisit o p s x (scope_from cursor) wanted
same_visit o p s x None wanted state is =
    let same : x ≡ s = is ∙ cut_nowhere o p s state in record {
      base = ap (λ (y : PartState). y.base) same;
      next = ap (λ (y : PartState). next_of o y Deletes p (scope_from None) wanted) same;
      found = ap (λ (y : PartState). yield_of o y Deletes p (scope_from None) wanted) same;
    }
same_visit o p s x (Some (Class base class)) wanted state is = record {
  base = ap (λ (y : PartState). y.base) (is ∙ cut_shows o p (is_passed o (Some (Class base class))) s state);
  next = refl;
  found = ap (yield_of_rows Deletes p) (ap (λ (y : PartState). filter (λ r. class_at o base r.0 == class) y.rows) is
      ∙ rows_stay p (λ j. class_at o base j == class) (is_passed o (Some (Class base class))) s.fixes s.rows
      (λ j here. le-ltb (class_at o base j) class (omega (arith, eqb-true (class_at o base j) class here))) state.live);
}
same_visit o p s x (Some (Behind k)) wanted state is =
    let same : following_rows k x.rows ≡ following_rows k s.rows = ap (λ (y : PartState). following_rows k y.rows) is ∙ rows_stay p (is_beyond k) (is_passed o (Some (Behind k))) s.fixes s.rows (λ j behind. ap not behind) state.live in
    record {
      base = ap (λ (y : PartState). y.base) (is ∙ cut_shows o p (is_passed o (Some (Behind k))) s state);
      next = ap (λ (rows : List Row). next_key (answers_of Deletes p) wanted (rows_up_to (answers_of Deletes p) wanted most_rows rows)) same;
      found = ap (λ (rows : List Row). yield_of_rows Deletes p (rows_up_to (answers_of Deletes p) wanted most_rows rows)) same;
    }

-- a visit of a key that isn't done
pub same_named : (o : Settings) (p : Program) (s x : PartState) (key : Datum) (done : Datum → Bool) (wanted : ℕ) → IsState o s → x ≡ cut_state o p done s → ((j : Datum) → is_same key j ≡ true → done j ≡ false)
    → SameVisit o p s x (Named key) wanted
same_named o p s x key done wanted state is anew = record {
  base = ap (λ (y : PartState). y.base) (is ∙ cut_shows o p done s state);
  next = refl;
  found = ap (yield_of_rows Deletes p) (ap (λ (y : PartState). filter (λ r. is_same key r.0) y.rows) is ∙ rows_stay p (is_same key) done s.fixes s.rows anew state.live);
}

pub inside_same : (o : Settings) (s x : PartState) (scope : Scope) → x.base ≡ s.base → IsTrue (is_inside o x scope) → IsTrue (is_inside o s scope)
inside_same o s x Begin same inside = refl
inside_same o s x (Named key) same inside = refl
inside_same o s x (After (Behind k)) same inside = inside
inside_same o s x (After (Class base class)) same inside =
    subst (λ (n : ℕ). IsTrue (is_inside o (record { rows = s.rows; fixes = s.fixes; slots = s.slots; base = n }) (After (Class base class)))) same inside
