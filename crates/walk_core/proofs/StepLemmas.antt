-- One visit of a walk: which keys it marks.
use Rattle.std.proofs.Common.{zero, suc, ◌≡◌, ◌≢◌, ℕ, ◌<◌, ◌≤◌, ◌⊎◌, inl, inr, refl, ap, sym, subst, ◌∙◌, arith, List, [], ◌∷◌, ◌++◌, length}
use Rattle.std.specs.Prelude.{Bool, true, false, ◌&&◌, ◌||◌, ◌==◌, IsTrue, All, AllPairs, Contains, Option, Some, take, slice_get, map, flat_map, filter}
use Rattle.std.proofs.Math.Seq.{take-append_seam}
use Rattle.std.proofs.lemmas.Bool.{true≢false, and_parts, and_from, or_left, or_right, eqb-true, eqb-false}
use Rattle.std.proofs.lemmas.Grind.{flat_map-append}
use Rattle.std.proofs.lemmas.List.{append_assoc, append-nil, length-append, map-append, get_or_append_left}
use Rattle.std.proofs.lemmas.List.Elements.{All-weaker, All-head, All-tail, All-append, All-filter, All-map, filter_passes, Contains-append_left, Contains-append_right, Contains-push, Contains-push_cases}
use Rattle.std.proofs.lemmas.List.Folds.{flat_map-map}
use Rattle.std.proofs.lemmas.List.Kept.{AllPairs-cons, AllPairs-filter}
use Rattle.term_core.specs.Datum.{Datum}
use Rattle.mcode.specs.Program.{Program}
use Rattle.part_core.specs.Acts.{Purpose, Scope, Said, Entry, History, Answer, Act, next_in}
use Rattle.part_core.specs.Acts.Act.{Visit}
use Rattle.part_core.specs.Acts.Purpose.{Answers, Counts, Deletes}
use Rattle.part_core.specs.Acts.Answer.{Replied}
use Rattle.part_core.specs.Content.{content}
use Rattle.part_core.specs.Covers.{covers}
use Rattle.part_core.specs.Laws.{IsPlacedAt}
use Rattle.part_core.specs.Legal.{IsLegal}
use Rattle.part_core.specs.Visits.{yields}
use Rattle.part_core.specs.Yields.{Yields}
use Rattle.part_core.proofs.KeyLemmas.{by_test}
use Rattle.part_core.proofs.LawLemmas.{none_elsewhere}
use Rattle.tables.specs.Options.{settings_of}
use Rattle.tables.specs.declared.options.Options.{Options}
use Rattle.tables.specs.Turns.{Home, Views, Turned}
use Rattle.walk_core.specs.Walk.{Walk}
use Rattle.walk_core.specs.Moments.{Span, span, IsMoment, IsMet, Mark, Gathers, IsGrown, AreLegal, answers_at, part_of_key}

-- ---- lists

pairs_head : {X : Type 0} (R : X → X → Type 0) (x : X) (xs : List X) → AllPairs R (x ∷ xs) → All (R x) xs
pairs_head R x xs h k d within = h 0 (suc k) d (omega arith) (omega (arith, within))

pairs_tail : {X : Type 0} (R : X → X → Type 0) (x : X) (xs : List X) → AllPairs R (x ∷ xs) → AllPairs R xs
pairs_tail R x xs h i j d lt within = h (suc i) (suc j) d (omega (arith, lt)) (omega (arith, within))

pairs_append : {X : Type 0} (R : X → X → Type 0) (xs ys : List X) → AllPairs R xs → AllPairs R ys → All (λ x. All (R x) ys) xs → AllPairs R (xs ++ ys)
pairs_append R [] ys front rest across = rest
pairs_append R (x ∷ xs) ys front rest across =
    AllPairs-cons R x (xs ++ ys)
    (All-append (R x) xs ys (pairs_head R x xs front) (All-head (λ z. All (R z) ys) x xs across))
    (pairs_append R xs ys (pairs_tail R x xs front) rest (All-tail (λ z. All (R z) ys) x xs across))

pairs_map : {X Y : Type 0} (R : Y → Y → Type 0) (f : X → Y) (xs : List X) → AllPairs (λ x y. R (f x) (f y)) xs → AllPairs R (map f xs)
pairs_map R f [] h = λ i j d lt within. absurd (omega (arith, within))
pairs_map R f (x ∷ xs) h =
    AllPairs-cons R (f x) (map f xs) (All-map (R (f x)) f xs (pairs_head (λ a b. R (f a) (f b)) x xs h)) (pairs_map R f xs (pairs_tail (λ a b. R (f a) (f b)) x xs h))

pub all_front : {X : Type 0} (P : X → Type 0) (xs ys : List X) → All P (xs ++ ys) → All P xs
all_front P xs ys all k d within =
    subst P (get_or_append_left xs ys d k within) (all k d (let long = length-append xs ys in omega (arith, long, within)))

-- elements that fail a test and yield nothing can be left out
flat_passing : {X Y : Type 0} (f : X → List Y) (test : X → Bool) (xs : List X) → ((x : X) → test x ≡ false → f x ≡ []) → flat_map f xs ≡ flat_map f (filter test xs)
flat_passing f test [] none = refl
flat_passing f test (x ∷ xs) none =
    by_test (test x) _
    (λ passes. rw passes (ap (λ ys. f x ++ ys) (flat_passing f test xs none)))
    (λ fails. rw fails (ap (λ ys. ys ++ flat_map f xs) (none x fails) ∙ flat_passing f test xs none))

contains_passing : (test : Datum → Bool) (ks : List Datum) (k : Datum) → test k ≡ true → Contains ks k → Contains (filter test ks) k
contains_passing test [] k passes (n, within, is) = absurd (omega (arith, within))
contains_passing test (j ∷ ks) k passes (zero, within, is) =
    rw (ap test is ∙ passes) (0, omega arith, is)
contains_passing test (j ∷ ks) k passes (suc n, within, is) =
    let later = contains_passing test ks k passes (n, omega (arith, within), is) in
    by_test (test j) _
    (λ holds. rw holds (suc later.0, omega (arith, later.1), later.2))
    (λ fails. rw fails later)

no_yield : (purpose : Purpose) (p : Program) → yields purpose p [] ≡ []
no_yield Answers p = refl
no_yield Counts p = refl
no_yield Deletes p = refl

-- ---- what is seen after a turn

pub turned_grown : (h : Home) (o : Options) (part : ℕ) (act : Act) (answer : Option Answer) (v w : Views) → h.options ≡ o → AreLegal o v → Turned h part act answer v w → IsGrown o v w
turned_grown h o part act answer v w same legal t k inside =
    by_test (k == part) _
    (λ here. let is = eqb-true k part here in
    subst (λ (q : ℕ). (more : History) × (w q ≡ v q ++ more) × IsLegal (settings_of o) (w q)) (sym is)
    (t.here.between ++ _, t.here.grown ∙ append_assoc (v part) t.here.between _, subst (λ (p : Options). IsLegal (settings_of p) (w part)) same t.here.legal))
    (λ other. let rest = t.rest k (eqb-false k part other) in
    ([], rest ∙ sym (append-nil (v k)), subst (IsLegal (settings_of o)) (sym rest) (legal k inside)))

-- ---- a visit's marks

abbrev pub visit_entry : Walk → Scope → ℕ → Said → Entry
visit_entry w scope wanted said =
    record { session = w.number; act = Visit w.purpose w.program scope wanted; answer = Replied said }

abbrev pub mark_at : ℕ → Datum → Mark
mark_at moment k = record { key = k; moment = moment }

-- a moment of the calls so far is one of the calls as they are later
later_call : (w : Walk) (calls : List Span) (before now later : Views) (now_is : Views) (k : Datum) (moment : ℕ) → length (now (part_of_key w k)) ≤ length (later (part_of_key w k)) → IsMoment w (calls ++ span before now ∷ []) now_is k moment → IsMoment w (calls ++ span before later ∷ []) now_is k moment
later_call w calls before now later now_is k moment longer m = of (Contains-push_cases calls (span before now) m.call m.made)
  where
    of : Contains calls m.call ⊎ (span before now ≡ m.call) → IsMoment w (calls ++ span before later ∷ []) now_is k moment
    of (inl old) = record {
      call = m.call;
      made = Contains-append_left calls (span before later ∷ []) m.call old;
      within = m.within;
      entry = m.entry;
      stands = m.stands;
      visit = m.visit;
    }
    of (inr last) =
        let within = subst (λ (c : Span). (length (c.before (part_of_key w k)) ≤ moment) × (moment < length (c.after (part_of_key w k)))) (sym last) m.within in
        record {
          call = span before later;
          made = Contains-push calls (span before later);
          within = (within.0, omega (arith, within.1, longer));
          entry = m.entry;
          stands = m.stands;
          visit = m.visit;
        }

-- what was collected in one call was collected in one that takes longer
pub wider_gathers : (w : Walk) (before after first last now : Views) (done : Datum → Bool) (xs : List Datum) → ((k : Datum) → length (first (part_of_key w k)) ≤ length (before (part_of_key w k))) → ((k : Datum) → length (after (part_of_key w k)) ≤ length (last (part_of_key w k))) → Gathers w (span before after ∷ []) now done xs → Gathers w (span first last ∷ []) now done xs
wider_gathers w before after first last now done xs sooner longer g = record {
  marks = g.marks;
  apart = g.apart;
  inside = g.inside;
  moments = All-weaker (λ m. IsMoment w (span before after ∷ []) now m.key m.moment) (λ m. IsMoment w (span first last ∷ []) now m.key m.moment) (λ m moment. wider m.key m.moment moment) g.marks g.moments;
  sum = g.sum;
  silent = λ k is. of k (g.silent k is);
}
  where
    only : (call : Span) → Contains (span before after ∷ []) call → span before after ≡ call
    only call (zero, within, is) = is
    only call (suc n, within, is) = absurd (omega (arith, within))

    wider : (k : Datum) (moment : ℕ) → IsMoment w (span before after ∷ []) now k moment → IsMoment w (span first last ∷ []) now k moment
    wider k moment m =
        let within = subst (λ (c : Span). (length (c.before (part_of_key w k)) ≤ moment) × (moment < length (c.after (part_of_key w k)))) (sym (only m.call m.made)) m.within in
        record {
          call = span first last;
          made = Contains-push [] (span first last);
          within = (omega (arith, within.0, sooner k), omega (arith, within.1, longer k));
          entry = m.entry;
          stands = m.stands;
          visit = m.visit;
        }

    of : (k : Datum) → IsMet w (span before after ∷ []) now g.marks k → IsMet w (span first last ∷ []) now g.marks k
    of k (inl marked) = inl marked
    of k (inr (moment, is, none)) = inr (moment, wider k moment is, none)

-- the calls as they are later collect the same
pub later_gathers : (w : Walk) (calls : List Span) (before now later : Views) (now_is : Views) (done : Datum → Bool) (xs : List Datum) → ((k : Datum) → length (now (part_of_key w k)) ≤ length (later (part_of_key w k))) → Gathers w (calls ++ span before now ∷ []) now_is done xs → Gathers w (calls ++ span before later ∷ []) now_is done xs
later_gathers w calls before now later now_is done xs longer g = record {
  marks = g.marks;
  apart = g.apart;
  inside = g.inside;
  moments = All-weaker (λ m. IsMoment w (calls ++ span before now ∷ []) now_is m.key m.moment) (λ m. IsMoment w (calls ++ span before later ∷ []) now_is m.key m.moment) (λ m moment. later_call w calls before now later now_is m.key m.moment (longer m.key) moment) g.marks g.moments;
  sum = g.sum;
  silent = λ k is. of k (g.silent k is);
}
  where
    of : (k : Datum) → IsMet w (calls ++ span before now ∷ []) now_is g.marks k → IsMet w (calls ++ span before later ∷ []) now_is g.marks k
    of k (inl marked) = inl marked
    of k (inr (moment, is, none)) =
        inr (moment, later_call w calls before now later now_is k moment (longer k) is, none)

-- a key that a visit covers has its moment directly before the visit
new_moment : (w : Walk) (calls : List Span) (before later : Views) (past : History) (scope : Scope) (wanted : ℕ) (said : Said) (part : ℕ) (k : Datum) → part_of_key w k ≡ part → length (before part) ≤ length past → later part ≡ past ++ visit_entry w scope wanted said ∷ [] → IsTrue (covers (settings_of w.options) scope (next_in said) k) → IsMoment w (calls ++ span before later ∷ []) later k (length past)
new_moment w calls before later past scope wanted said part k at begins grown covered = record {
  call = span before later;
  made = Contains-push calls (span before later);
  within = subst (λ (q : ℕ). (length (before q) ≤ length past) × (length past < length (later q))) (sym at) (begins, longer);
  entry = visit_entry w scope wanted said;
  stands = subst (λ (q : ℕ). slice_get (later q) (length past) ≡ Some (visit_entry w scope wanted said)) (sym at) (subst (λ (log : History). slice_get log (length past) ≡ Some (visit_entry w scope wanted said)) (sym grown) (seam past (visit_entry w scope wanted said)));
  visit = record { scope = scope; wanted = wanted; said = said; made = refl; covered = covered };
}
  where
    seam : (es : History) (e : Entry) → slice_get (es ++ e ∷ []) (length es) ≡ Some e
    seam [] e = refl
    seam (x ∷ es) e = seam es e

    longer : length past < length (later part)
    longer = subst (λ (log : History). length past < length log) (sym grown) (let long = length-append past (visit_entry w scope wanted said ∷ []) in omega (arith, long))

new_answers : (w : Walk) (later : Views) (past : History) (e : Entry) (part : ℕ) (k : Datum) → part_of_key w k ≡ part → later part ≡ past ++ e ∷ [] → answers_at w later k (length past) ≡ yields w.purpose w.program (content (settings_of w.options) k past)
new_answers w later past e part k at grown =
    ap (λ (log : History). yields w.purpose w.program (content (settings_of w.options) k log)) (ap (λ (q : ℕ). take (length past) (later q)) at ∙ ap (take (length past)) grown ∙ take-append_seam past (e ∷ []))

-- what is collected before a visit, together with the visit's answers for the keys that it covers
pub gathers_on : (w : Walk) (calls : List Span) (before later : Views) (part : ℕ) (past : History) (scope : Scope) (wanted : ℕ) (said : Said) (done done_later : Datum → Bool) (xs ys : List Datum) →
    All (λ e. IsPlacedAt (settings_of w.options) part e.act) past →
    length (before part) ≤ length past →
    later part ≡ past ++ visit_entry w scope wanted said ∷ [] →
    Yields (settings_of w.options) past w.purpose w.program (covers (settings_of w.options) scope (next_in said)) ys →
    ((k : Datum) → done_later k ≡ (done k || ((part_of_key w k == part) && covers (settings_of w.options) scope (next_in said) k))) →
    ((k : Datum) → ((part_of_key w k == part) && covers (settings_of w.options) scope (next_in said) k) ≡ true → done k ≡ false) →
    Gathers w (calls ++ span before later ∷ []) later done xs →
    Gathers w (calls ++ span before later ∷ []) later done_later (xs ++ ys)
gathers_on w calls before later part past scope wanted said done done_later xs ys placed begins grown y more anew g = record {
  marks = g.marks ++ news;
  apart = pairs_append (λ l m. l.key ≢ m.key) g.marks news g.apart (pairs_map (λ l m. l.key ≢ m.key) (mark_at (length past)) keys (AllPairs-filter (λ j k. j ≢ k) here y.keys y.apart)) across;
  inside = All-append (λ m. IsTrue (done_later m.key)) g.marks news
      (All-weaker (λ m. IsTrue (done m.key)) (λ m. IsTrue (done_later m.key)) (λ m is. more m.key ∙ or_left (done m.key) _ is) g.marks g.inside)
      (All-map (λ m. IsTrue (done_later m.key)) (mark_at (length past)) keys (All-weaker covered_at (λ k. IsTrue (done_later k)) (λ k is. more k ∙ or_right (done k) _ is) keys all_covered));
  moments = All-append (λ m. IsMoment w (calls ++ span before later ∷ []) later m.key m.moment) g.marks news g.moments
      (All-map (λ m. IsMoment w (calls ++ span before later ∷ []) later m.key m.moment) (mark_at (length past)) keys (All-weaker covered_at (λ k. IsMoment w (calls ++ span before later ∷ []) later k (length past)) moment_of keys all_covered));
  sum = ap (λ zs. zs ++ ys) g.sum ∙ ap (λ zs. flat_map (λ m. answers_at w later m.key m.moment) g.marks ++ zs) (y.sum ∙ flat_passing of_key here y.keys elsewhere ∙ answers keys all_covered ∙ sym (flat_map-map (λ m. answers_at w later m.key m.moment) (mark_at (length past)) keys)) ∙ sym (flat_map-append (λ m. answers_at w later m.key m.moment) g.marks news);
  silent = λ k is. by_test (done k) _
      (λ old. front k (g.silent k old))
      (λ not_old. let new = sym (more k) ∙ is in fresh k (rw not_old at new));
}
  where
    here : Datum → Bool
    here k = part_of_key w k == part

    keys : List Datum
    keys = filter (λ k. part_of_key w k == part) y.keys

    news : List Mark
    news = map (mark_at (length past)) (filter (λ k. part_of_key w k == part) y.keys)

    covered_at : Datum → Type 0
    covered_at k = ((part_of_key w k == part) && covers (settings_of w.options) scope (next_in said) k) ≡ true

    all_covered : All covered_at keys
    all_covered = λ n d within. and_from _ _ (filter_passes here y.keys n d within) (All-filter here (λ k. IsTrue (covers (settings_of w.options) scope (next_in said) k)) y.keys y.covered n d within)

    across : All (λ l. All (λ m. l.key ≢ m.key) news) g.marks
    across = All-weaker (λ l. IsTrue (done l.key)) (λ l. All (λ m. l.key ≢ m.key) news) (λ l is. All-map (λ m. l.key ≢ m.key) (mark_at (length past)) keys (All-weaker covered_at (λ k. l.key ≢ k) (λ k covered same. true≢false (sym is ∙ ap done same ∙ anew k covered)) keys all_covered)) g.marks g.inside

    moment_of : (k : Datum) → covered_at k → IsMoment w (calls ++ span before later ∷ []) later k (length past)
    moment_of k covered =
        let both = and_parts (part_of_key w k == part) _ covered in
        new_moment w calls before later past scope wanted said part k (eqb-true (part_of_key w k) part both.0) begins grown both.1

    of_key : Datum → List Datum
    of_key k = yields w.purpose w.program (content (settings_of w.options) k past)

    elsewhere : (k : Datum) → here k ≡ false → of_key k ≡ []
    elsewhere k other =
        ap (yields w.purpose w.program) (none_elsewhere (settings_of w.options) part past k placed (eqb-false (part_of_key w k) part other)) ∙ no_yield w.purpose w.program

    answers : (ks : List Datum) → All covered_at ks → flat_map of_key ks ≡ flat_map (λ k. answers_at w later k (length past)) ks
    answers [] all = refl
    answers (k ∷ ks) all =
        let both = and_parts (part_of_key w k == part) _ (All-head covered_at k ks all) in
        ap (λ zs. zs ++ flat_map of_key ks) (sym (new_answers w later past _ part k (eqb-true (part_of_key w k) part both.0) grown))
        ∙ ap (λ zs. answers_at w later k (length past) ++ zs) (answers ks (All-tail covered_at k ks all))

    map_keys : (ks : List Datum) → map (λ m. m.key) (map (mark_at (length past)) ks) ≡ ks
    map_keys [] = refl
    map_keys (k ∷ ks) = ap (λ js. k ∷ js) (map_keys ks)

    marked : map (λ m. m.key) (g.marks ++ news) ≡ map (λ m. m.key) g.marks ++ keys
    marked = map-append (λ m. m.key) g.marks news ∙ ap (λ ks. map (λ m. m.key) g.marks ++ ks) (map_keys keys)

    front : (k : Datum) → IsMet w (calls ++ span before later ∷ []) later g.marks k → IsMet w (calls ++ span before later ∷ []) later (g.marks ++ news) k
    front k (inl old) =
        inl (subst (λ ks. Contains ks k) (sym marked) (Contains-append_left (map (λ m. m.key) g.marks) keys k old))
    front k (inr silent) = inr silent

    fresh : (k : Datum) → covered_at k → IsMet w (calls ++ span before later ∷ []) later (g.marks ++ news) k
    fresh k covered =
        let both = and_parts (part_of_key w k == part) _ covered in
        of both.0 (y.silent k both.1)
      where
        of : here k ≡ true → Contains y.keys k ⊎ (yields w.purpose w.program (content (settings_of w.options) k past) ≡ []) → IsMet w (calls ++ span before later ∷ []) later (g.marks ++ news) k
        of at (inl some) =
            inl (subst (λ ks. Contains ks k) (sym marked) (Contains-append_right (map (λ m. m.key) g.marks) keys k (contains_passing here y.keys k at some)))
        of at (inr none) =
            inr (length past, moment_of k covered, new_answers w later past _ part k (eqb-true (part_of_key w k) part at) grown ∙ none)
