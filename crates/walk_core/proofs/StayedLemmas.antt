-- What follows for objects: one that stayed is answered once, every answer has an object, and a set has one answer per key.
use Rattle.std.proofs.Common.{zero, suc, ◌≡◌, ◌≢◌, ℕ, ◌≤◌, ◌⊎◌, inl, inr, refl, ap, sym, subst, ◌∙◌, arith, List, [], ◌∷◌, ◌++◌, length}
use Rattle.std.specs.Prelude.{Bool, true, false, if◌then◌else◌, IsTrue, All, AllPairs, Contains, Option, Some, None, take, drop, map, flat_map, filter, filter_map}
use Rattle.std.specs.Option.{option_map_or}
use Rattle.std.proofs.lemmas.Grind.{flat_map-append}
use Rattle.std.proofs.lemmas.List.Elements.{All-cons, All-head, All-nil, All-tail, All-weaker, Contains-append_cases}
use Rattle.std.proofs.lemmas.Option.{none-some}
use Rattle.term_core.specs.Datum.{Datum}
use Rattle.term_operand.specs.Operand.{boolean}
use Rattle.term_operand.specs.Order.{is_same}
use Rattle.mcode.specs.Answer.{answer_of}
use Rattle.mcode.specs.Program.{Program}
use Rattle.part_core.specs.declared.settings.Settings.{Settings}
use Rattle.part_core.specs.Acts.{Purpose}
use Rattle.part_core.specs.Acts.Purpose.{Answers, Counts, Deletes}
use Rattle.part_core.specs.Legal.{state_after, IsLegal}
use Rattle.part_core.specs.Rows.{Row, objects_at, opening}
use Rattle.part_core.specs.Settings.{is_object, is_set, key_of}
use Rattle.part_core.specs.States.{IsRow, IsObjectOf}
use Rattle.part_core.specs.Visits.{is_true, yields}
use Rattle.part_core.proofs.HistoryLemmas.{content_of, legal_front_from, state_of}
use Rattle.part_core.proofs.KeyLemmas.{by_test, same_from, same_is}
use Rattle.tables.specs.Options.{settings_of}
use Rattle.tables.specs.Turns.{Views}
use Rattle.walk_core.specs.Walk.{Walk, IsWalk, is_done, is_in_parts}
use Rattle.walk_core.specs.Walk.Position.{Over}
use Rattle.walk_core.specs.Moments.{Span, IsMoment, IsMet, Mark, Gathers, IsAnswer, AreLegal, answers_at, part_of_key}
use Rattle.walk_core.specs.Once.{content_at}
use Rattle.walk_core.specs.Stayed.{given_for, times, IsAnsweredOnce, IsAnsweredFor, IsContentOf}
use Rattle.walk_core.proofs.GrowthLemmas.{key_inside}
use Rattle.walk_core.proofs.StepLemmas.{mark_at}

-- ---- what is given for one object

passing : (p : Program) (ts : List Datum) → filter (is_true p) ts ≡ filter_map (λ t. if is_true p t then Some t else None) ts
passing p [] = refl
passing p (t ∷ ts) =
    by_test (is_true p t) _
    (λ passes. rw passes (ap (λ us. t ∷ us) (passing p ts)))
    (λ fails. rw fails (passing p ts))

given_as : (purpose : Purpose) (p : Program) (ts : List Datum) → yields purpose p ts ≡ filter_map (given_for purpose p) ts
given_as Answers p ts = refl
given_as Counts p ts = passing p ts
given_as Deletes p ts = passing p ts

-- nothing is given for an object without an answer
nothing_given : (purpose : Purpose) (p : Program) (t : Datum) → answer_of p t ≡ None → given_for purpose p t ≡ None
nothing_given Answers p t none = none
nothing_given Counts p t none =
    ap (λ (o : Option Datum). if option_map_or (is_same (boolean true)) o false then Some t else None) none
nothing_given Deletes p t none =
    ap (λ (o : Option Datum). if option_map_or (is_same (boolean true)) o false then Some t else None) none

given_among : (h : Datum → Option Datum) (ts : List Datum) (t a : Datum) → h t ≡ Some a → Contains ts t → Contains (filter_map h ts) a
given_among h [] t a given (n, within, is) = absurd (omega (arith, within))
given_among h (u ∷ ts) t a given (zero, within, is) =
    let here : h u ≡ Some a = ap h is ∙ given in rw here (0, omega arith, refl)
given_among h (u ∷ ts) t a given (suc n, within, is) =
    of (given_among h ts t a given (n, omega (arith, within), is)) (h u) refl
  where
    of : Contains (filter_map h ts) a → (o : Option Datum) → h u ≡ o → Contains (filter_map h (u ∷ ts)) a
    of later None here = rw here later
    of later (Some b) here = rw here (suc later.0, omega (arith, later.1), later.2)

-- what is given for an object occurs among what is given at least as many times as the object
times_given : (h : Datum → Option Datum) (t a : Datum) (ts : List Datum) → h t ≡ Some a → times t ts ≤ times a (filter_map h ts)
times_given h t a [] given = omega arith
times_given h t a (u ∷ ts) given =
    by_test (is_same t u) (times t (u ∷ ts) ≤ times a (filter_map h (u ∷ ts)))
    (λ same. let here : h u ≡ Some a = ap h (sym (same_is t u same)) ∙ given in
    let itself : is_same a a ≡ true = same_from a a refl in
    rw (same, here, itself) (omega (arith, times_given h t a ts given)))
    (λ other. rw other (of (times_given h t a ts given) (h u) refl))
  where
    of : times t ts ≤ times a (filter_map h ts) → (o : Option Datum) → h u ≡ o → times t ts ≤ times a (filter_map h (u ∷ ts))
    of fewer None here = rw here fewer
    of fewer (Some b) here =
        rw here
        (by_test (is_same a b) (times t ts ≤ times a (b ∷ filter_map h ts)) (λ same. rw same (omega (arith, fewer))) (λ apart. rw apart fewer))

-- there is an object for which this is given
record Giver (h : Datum → Option Datum) (ts : List Datum) (a : Datum) : Type 0 where
  pub object : Datum
  pub there : Contains ts object
  pub given : h object ≡ Some a

giver : (h : Datum → Option Datum) (ts : List Datum) (a : Datum) → Contains (filter_map h ts) a → Giver h ts a
giver h [] a (n, within, is) = absurd (omega (arith, within))
giver h (t ∷ ts) a there = of (λ c. giver h ts a c) (h t) refl
  where
    later : Giver h ts a → Giver h (t ∷ ts) a
    later g = record { object = g.object; there = (suc g.there.0, omega (arith, g.there.1), g.there.2); given = g.given }

    some : (b : Datum) → h t ≡ Some b → (Contains (filter_map h ts) a → Giver h ts a) → Contains (b ∷ filter_map h ts) a → Giver h (t ∷ ts) a
    some b here rest (zero, within, is) =
        record { object = t; there = (0, omega arith, refl); given = here ∙ ap Some is }
    some b here rest (suc n, within, is) = later (rest (n, omega (arith, within), is))

    of : (Contains (filter_map h ts) a → Giver h ts a) → (o : Option Datum) → h t ≡ o → Giver h (t ∷ ts) a
    of rest None here = later (rest (rw here at there))
    of rest (Some b) here = some b here rest (rw here at there)

-- ---- marks

-- one of the marks has this answer
record MarkOf (f : Mark → List Datum) (P : Mark → Type 0) (a : Datum) : Type 0 where
  pub mark : Mark
  pub holds : P mark
  pub there : Contains (f mark) a

mark_of : (f : Mark → List Datum) (P : Mark → Type 0) (marks : List Mark) (a : Datum) → All P marks → Contains (flat_map f marks) a → MarkOf f P a
mark_of f P [] a all (n, within, is) = absurd (omega (arith, within))
mark_of f P (m ∷ marks) a all there =
    of (λ c. mark_of f P marks a (All-tail P m marks all) c) (Contains-append_cases (f m) (flat_map f marks) a there)
  where
    of : (Contains (flat_map f marks) a → MarkOf f P a) → Contains (f m) a ⊎ Contains (flat_map f marks) a → MarkOf f P a
    of rest (inl here) = record { mark = m; holds = All-head P m marks all; there = here }
    of rest (inr later) = rest later

-- marks, split at the one with a given key
record Split (P : Mark → Type 0) (marks : List Mark) (k : Datum) : Type 0 where
  pub moment : ℕ
  pub front : List Mark
  pub rest : List Mark
  pub is : marks ≡ front ++ mark_at moment k ∷ rest
  pub holds : P (mark_at moment k)
  pub before : All (λ m. m.key ≢ k) front
  pub behind : All (λ m. m.key ≢ k) rest

first_apart : (m : Mark) (marks : List Mark) → AllPairs (λ j l. j.key ≢ l.key) (m ∷ marks) → All (λ l. m.key ≢ l.key) marks
first_apart m marks h n d within = h 0 (suc n) d (omega arith) (omega (arith, within))

rest_apart : (m : Mark) (marks : List Mark) → AllPairs (λ j l. j.key ≢ l.key) (m ∷ marks) → AllPairs (λ j l. j.key ≢ l.key) marks
rest_apart m marks h i j d lt within = h (suc i) (suc j) d (omega (arith, lt)) (omega (arith, within))

-- a key of some marks isn't the key of a mark that differs from all of them
differs : (m : Mark) (marks : List Mark) (k : Datum) → All (λ l. m.key ≢ l.key) marks → Contains (map (λ l. l.key) marks) k → m.key ≢ k
differs m [] k all (n, within, is) same = omega (arith, within)
differs m (l ∷ marks) k all (zero, within, is) same = All-head (λ j. m.key ≢ j.key) l marks all (same ∙ sym is)
differs m (l ∷ marks) k all (suc n, within, is) same =
    differs m marks k (All-tail (λ j. m.key ≢ j.key) l marks all) (n, omega (arith, within), is) same

split : (P : Mark → Type 0) (marks : List Mark) (k : Datum) → All P marks → AllPairs (λ j l. j.key ≢ l.key) marks → Contains (map (λ l. l.key) marks) k → Split P marks k
split P [] k all apart (n, within, is) = absurd (omega (arith, within))
split P (m ∷ marks) k all apart (zero, within, is) = record {
  moment = m.moment;
  front = [];
  rest = marks;
  is = ap (λ (j : Datum). mark_at m.moment j ∷ marks) is;
  holds = subst (λ (j : Datum). P (mark_at m.moment j)) is (All-head P m marks all);
  before = All-nil (λ l. l.key ≢ k);
  behind = All-weaker (λ l. m.key ≢ l.key) (λ l. l.key ≢ k) (λ l other same. other (is ∙ sym same)) marks (first_apart m marks apart);
}
split P (m ∷ marks) k all apart (suc n, within, is) =
    let there : Contains (map (λ (l : Mark). l.key) marks) k = (n, omega (arith, within), is) in
    let later = split P marks k (All-tail P m marks all) (rest_apart m marks apart) there in
    record {
      moment = later.moment;
      front = m ∷ later.front;
      rest = later.rest;
      is = ap (λ ls. m ∷ ls) later.is;
      holds = later.holds;
      before = All-cons (λ l. l.key ≢ k) m later.front (differs m marks k (first_apart m marks apart) there) later.before;
      behind = later.behind;
    }

-- ---- objects that stayed

answered_among : (w : Walk) (now : Views) (k t a : Datum) (moment : ℕ) → given_for w.purpose w.program t ≡ Some a → Contains (content_at w now k moment) t → Contains (answers_at w now k moment) a
answered_among w now k t a moment given there =
    subst (λ (xs : List Datum). Contains xs a) (sym (given_as w.purpose w.program (content_at w now k moment))) (given_among (given_for w.purpose w.program) (content_at w now k moment) t a given there)

-- what is given for an object occurs among the answers at a moment at least as many times as the object was there
each_answered : (w : Walk) (now : Views) (k t a : Datum) (moment : ℕ) → given_for w.purpose w.program t ≡ Some a → times t (content_at w now k moment) ≤ times a (answers_at w now k moment)
each_answered w now k t a moment given =
    subst (λ (xs : List Datum). times t (content_at w now k moment) ≤ times a xs) (sym (given_as w.purpose w.program (content_at w now k moment)))
    (times_given (given_for w.purpose w.program) t a (content_at w now k moment) given)

pub stayed_answered : (w : Walk) (calls : List Span) (now : Views) (answers : List Datum) (t a : Datum) → IsAnswer w calls now answers → IsTrue (is_object (settings_of w.options) t) → IsTrue (is_in_parts w w.to (key_of (settings_of w.options) t)) → given_for w.purpose w.program t ≡ Some a → ((moment : ℕ) → IsMoment w calls now (key_of (settings_of w.options) t) moment → Contains (content_at w now (key_of (settings_of w.options) t) moment) t) → IsAnsweredOnce w calls now answers t a
stayed_answered w calls now answers t a ans object inside given stayed =
    of (ans.all (key_of (settings_of w.options) t) inside)
  where
    marked : Contains (map (λ (m : Mark). m.key) ans.gathers.marks) (key_of (settings_of w.options) t) → IsAnsweredOnce w calls now answers t a
    marked there =
        let k = key_of (settings_of w.options) t in
        let s = split (λ m. IsMoment w calls now m.key m.moment) ans.gathers.marks k ans.gathers.moments ans.gathers.apart there in
        record {
          moment = s.moment;
          made = s.holds;
          there = stayed s.moment s.holds;
          given = answered_among w now k t a s.moment given (stayed s.moment s.holds);
          each = each_answered w now k t a s.moment given;
          front = s.front;
          rest = s.rest;
          before = s.before;
          behind = s.behind;
          sum = ans.gathers.sum ∙ ap (flat_map (λ m. answers_at w now m.key m.moment)) s.is
              ∙ flat_map-append (λ m. answers_at w now m.key m.moment) s.front (mark_at s.moment k ∷ s.rest);
        }

    met : IsMet w calls now ans.gathers.marks (key_of (settings_of w.options) t) → IsAnsweredOnce w calls now answers t a
    met (inl there) = marked there
    met (inr (moment, made, none)) =
        let among = answered_among w now (key_of (settings_of w.options) t) t a moment given (stayed moment made) in
        let nowhere : Contains [] a = subst (λ (xs : List Datum). Contains xs a) none among in
        absurd (omega (arith, nowhere.1))

    of : IsTrue (is_done w Over (key_of (settings_of w.options) t)) ⊎ ((u : Datum) → IsTrue (is_object (settings_of w.options) u) → key_of (settings_of w.options) u ≡ key_of (settings_of w.options) t → answer_of w.program u ≡ None) → IsAnsweredOnce w calls now answers t a
    of (inl done) = met (ans.gathers.silent (key_of (settings_of w.options) t) done)
    of (inr none) =
        absurd (none-some a (sym (nothing_given w.purpose w.program t (none t object refl)) ∙ given))

-- ---- every answer has an object

pub answered_for : (w : Walk) (calls : List Span) (now : Views) (done : Datum → Bool) (answers : List Datum) (a : Datum) → Gathers w calls now done answers → Contains answers a → IsAnsweredFor w calls now a
answered_for w calls now done answers a g there =
    let m = mark_of (λ m. answers_at w now m.key m.moment) (λ m. IsMoment w calls now m.key m.moment) g.marks a g.moments (subst (λ (xs : List Datum). Contains xs a) g.sum there) in
    let t = giver (given_for w.purpose w.program) (content_at w now m.mark.key m.mark.moment) a (subst (λ (xs : List Datum). Contains xs a) (given_as w.purpose w.program (content_at w now m.mark.key m.mark.moment)) m.there) in
    record {
      object = t.object;
      key = m.mark.key;
      moment = m.mark.moment;
      made = m.holds;
      there = t.there;
      given = t.given;
    }

-- ---- a key's objects

objects_of : (o : Settings) (k : Datum) (rows : List Row) → All (IsRow o) rows → All (IsObjectOf o k) (objects_at rows k) × (IsTrue (is_set o.kind) → length (objects_at rows k) ≤ 1)
objects_of o k [] each = (All-nil (IsObjectOf o k), λ set. omega arith)
objects_of o k (r ∷ rows) each =
    let row = All-head (IsRow o) r rows each in
    let later = objects_of o k rows (All-tail (IsRow o) r rows each) in
    by_test (is_same k r.0) _
    (λ same. rw same (subst (λ (j : Datum). All (IsObjectOf o j) r.1) (sym (same_is k r.0 same)) row.objects, row.single))
    (λ other. rw other later)

take_front : {X : Type 0} (n : ℕ) (xs : List X) → xs ≡ take n xs ++ drop n xs
take_front zero xs = refl
take_front (suc n) [] = refl
take_front (suc n) (x ∷ xs) = ap (λ ys. x ∷ ys) (take_front n xs)

pub content_has : (w : Walk) (now : Views) (k : Datum) (count : ℕ) → IsWalk w → AreLegal w.options now → IsContentOf w k (content_at w now k count)
content_has w now k count walk legal =
    let o = settings_of w.options in
    let log = now (part_of_key w k) in
    let front : IsLegal o (take count log) = legal_front_from o (opening o) (take count log) (drop count log) (subst (IsLegal o) (take_front count log) (legal (part_of_key w k) (key_inside w k walk))) in
    let found = objects_of o k (state_after o (take count log)).rows (state_of o (take count log) front).each in
    let same = content_of o (take count log) k front in
    record {
      objects = subst (λ (ts : List Datum). All (IsObjectOf o k) ts) same found.0;
      single = λ set. subst (λ (ts : List Datum). length ts ≤ 1) same (found.1 set);
    }

fewer_given : (h : Datum → Option Datum) (ts : List Datum) → length (filter_map h ts) ≤ length ts
fewer_given h [] = omega arith
fewer_given h (t ∷ ts) = of (fewer_given h ts) (h t) refl
  where
    of : length (filter_map h ts) ≤ length ts → (o : Option Datum) → h t ≡ o → length (filter_map h (t ∷ ts)) ≤ length (t ∷ ts)
    of few None here = rw here (omega (arith, few))
    of few (Some b) here = rw here (omega (arith, few))

pub one_answer : (w : Walk) (now : Views) (k : Datum) (moment : ℕ) → IsTrue (is_set w.options.kind) → IsWalk w → AreLegal w.options now → length (answers_at w now k moment) ≤ 1
one_answer w now k moment set walk legal =
    let few = fewer_given (given_for w.purpose w.program) (content_at w now k moment) in
    let one = (content_has w now k moment walk legal).single set in
    subst (λ (xs : List Datum). length xs ≤ 1) (sym (given_as w.purpose w.program (content_at w now k moment))) (omega (arith, few, one))
