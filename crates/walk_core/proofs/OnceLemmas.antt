-- What a deleting walk removes, and that a walk covers each key once.
use Rattle.std.proofs.Common.{zero, suc, ◌≡◌, ◌≢◌, ℕ, ◌+◌, ◌<◌, ◌≤◌, ◌⊎◌, inl, inr, refl, ap, sym, subst, ◌∙◌, arith, List, [], ◌∷◌, ◌++◌, length}
use Rattle.std.specs.Prelude.{Bool, true, false, not, ◌||◌, ◌==◌, if◌then◌else◌, nat_lt, IsFalse, All, Contains, map, Some, take, slice_get, get_or, filter}
use Rattle.std.proofs.lemmas.Bool.{true≢false, and_from, or_left, or_right, eqb-true, eqb-false, eq-eqb, ltb-true, ltb-false}
use Rattle.std.proofs.lemmas.List.{append_assoc, take_more, length-append}
use Rattle.std.proofs.lemmas.List.Elements.{All-head, All-push, All-tail, Contains-append_left, Contains-push, Contains-push_cases}
use Rattle.std.proofs.lemmas.List.Sums.{fold-append}
use Rattle.std.proofs.lemmas.Option.{slice_get-get_or, slice_get_within, get_or_from_slice_get, none-some, same_Some}
use Rattle.term_core.specs.Datum.{Datum}
use Rattle.mcode.specs.Program.{Program}
use Rattle.part_core.specs.declared.settings.Settings.{Settings}
use Rattle.part_core.specs.Acts.{Purpose, Scope, Said, Act, Answer, Entry, History, next_in}
use Rattle.part_core.specs.Acts.Act.{Visit}
use Rattle.part_core.specs.Acts.Answer.{Replied, Refused}
use Rattle.part_core.specs.Acts.Said.{Nothing}
use Rattle.part_core.specs.Acts.Scope.{Begin}
use Rattle.part_core.specs.Legal.{state_after, IsLegal}
use Rattle.part_core.proofs.KeyLemmas.{by_test}
use Rattle.part_core.proofs.LawLemmas.{visits_led}
use Rattle.part_core.specs.Acts.Purpose.{Answers, Counts, Deletes}
use Rattle.part_core.specs.Content.{written, content}
use Rattle.part_core.specs.Covers.{covers}
use Rattle.part_core.specs.Visits.{is_true, yields}
use Rattle.tables.specs.Options.{settings_of}
use Rattle.tables.specs.declared.options.Options.{Options}
use Rattle.gate.specs.Views.{own}
use Rattle.tables.specs.Turns.{Home, Views, TurnedAt}
use Rattle.walk_core.specs.Walk.{Walk, Position, IsWalk, IsPosition, is_done, is_covered, start_of, part_at, scope_at}
use Rattle.walk_core.specs.Walk.Position.{Over}
use Rattle.walk_core.specs.Goes.{Way, IsAt, Visits, Goes, Drifted, Stops, past_of}
use Rattle.walk_core.specs.Goes.Goes.{stays, goes}
use Rattle.walk_core.specs.Moments.{Span, span, IsVisit, IsMoment, IsMet, Mark, Gathers, IsGrown, AreLegal, answers_at, part_of_key}
use Rattle.walk_core.specs.Once.{IsOnce, IsQuiet, IsVisitAt, content_at}
use Rattle.walk_core.proofs.GrowthLemmas.{key_inside}
use Rattle.walk_core.proofs.PositionLemmas.{done_next, covered_anew}
use Rattle.walk_core.proofs.StepLemmas.{visit_entry}
use Rattle.walk_core.proofs.GoesLemmas.{drifted_grown, goes_grown, goes_position, grown_legal, visit_grown}

-- ---- what a visit removes

-- the content after one more entry
content_more : (o : Settings) (k : Datum) (past : History) (e : Entry) → content o k (past ++ e ∷ []) ≡ written o k (content o k past) e.act e.answer
content_more o k past e = fold-append (λ os (d : Entry). written o k os d.act d.answer) [] past (e ∷ [])

one_more : (log : History) (moment : ℕ) (e : Entry) → slice_get log moment ≡ Some e → take (moment + 1) log ≡ take moment log ++ e ∷ []
one_more log moment e stands =
    take_more log moment e (slice_get_within log moment e stands) ∙ ap (λ (d : Entry). take moment log ++ d ∷ []) (get_or_from_slice_get log moment e e stands)

visit_takes : (w : Walk) (k : Datum) (past : History) (e : Entry) → w.purpose ≡ Deletes → IsVisit w k e → content (settings_of w.options) k (past ++ e ∷ []) ≡ filter (λ t. not (is_true w.program t)) (content (settings_of w.options) k past)
visit_takes w k past e deletes v =
    content_more (settings_of w.options) k past e
    ∙ ap (λ (d : Entry). written (settings_of w.options) k (content (settings_of w.options) k past) d.act d.answer) v.made
    ∙ ap (λ (purpose : Purpose). written (settings_of w.options) k (content (settings_of w.options) k past) (Visit purpose w.program v.scope v.wanted) (Replied v.said)) deletes
    ∙ ap (λ (b : Bool). if b then filter (λ t. not (is_true w.program t)) (content (settings_of w.options) k past) else content (settings_of w.options) k past) v.covered

pub moment_takes : (w : Walk) (calls : List Span) (now : Views) (k : Datum) (moment : ℕ) → w.purpose ≡ Deletes → IsMoment w calls now k moment → content (settings_of w.options) k (take (moment + 1) (now (part_of_key w k))) ≡ filter (λ t. not (is_true w.program t)) (content (settings_of w.options) k (take moment (now (part_of_key w k))))
moment_takes w calls now k moment deletes m =
    ap (content (settings_of w.options) k) (one_more (now (part_of_key w k)) moment m.entry m.stands)
    ∙ visit_takes w k (take moment (now (part_of_key w k))) m.entry deletes m.visit

pub takes_nothing : (o : Settings) (past : History) (n : ℕ) (purpose : Purpose) (p : Program) (scope : Scope) (wanted : ℕ) (said : Said) (k : Datum) → (purpose ≡ Deletes → IsFalse (covers o scope (next_in said) k)) → content o k (past ++ (record { session = n; act = Visit purpose p scope wanted; answer = Replied said }) ∷ []) ≡ content o k past
takes_nothing o past n Answers p scope wanted said k other =
    content_more o k past (record { session = n; act = Visit Answers p scope wanted; answer = Replied said })
takes_nothing o past n Counts p scope wanted said k other =
    content_more o k past (record { session = n; act = Visit Counts p scope wanted; answer = Replied said })
takes_nothing o past n Deletes p scope wanted said k other =
    content_more o k past (record { session = n; act = Visit Deletes p scope wanted; answer = Replied said })
    ∙ ap (λ (b : Bool). if b then filter (λ t. not (is_true p t)) (content o k past) else content o k past) (other refl)

-- ---- which entries are the walk's

cons_nil : (e : Entry) (es : History) → e ∷ es ≡ [] → ⊥
cons_nil e es none = omega (arith, ap length none)

nth_left : {X : Type 0} (xs ys : List X) (i : ℕ) → i < length xs → slice_get (xs ++ ys) i ≡ slice_get xs i
nth_left [] ys i within = absurd (omega (arith, within))
nth_left (x ∷ xs) ys zero within = refl
nth_left (x ∷ xs) ys (suc i) within = nth_left xs ys i (omega (arith, within))

-- after what was seen and some entries of others, a session's own entry is the one that was made then
own_entry : (n : ℕ) (xs between : History) (d : Entry) (moment : ℕ) (e : Entry) → own n between ≡ [] → e.session ≡ n → length xs ≤ moment → slice_get ((xs ++ between) ++ d ∷ []) moment ≡ Some e → (moment ≡ length (xs ++ between)) × (e ≡ d)
own_entry n (x ∷ xs) between d zero e others is long stands = absurd (omega (arith, long))
own_entry n (x ∷ xs) between d (suc moment) e others is long stands =
    let later = own_entry n xs between d moment e others is (omega (arith, long)) stands in
    (ap suc later.0, later.1)
own_entry n [] [] d zero e others is long stands = (refl, sym (same_Some d e stands))
own_entry n [] [] d (suc moment) e others is long stands = absurd (none-some e stands)
own_entry n [] (b ∷ between) d zero e others is long stands =
    absurd (not_between b between others (ap (λ (c : Entry). c.session) (same_Some b e stands) ∙ is))
  where
    not_between : (b : Entry) (between : History) → own n (b ∷ between) ≡ [] → b.session ≡ n → ⊥
    not_between b between others here =
        let same : (b.session == n) ≡ true = eq-eqb b.session n here in
        cons_nil b (own n between) (sym (ap (λ (t : Bool). if t then b ∷ own n between else own n between) same) ∙ others)
own_entry n [] (b ∷ between) d (suc moment) e others is long stands =
    let later = own_entry n [] between d moment e (rest (b.session == n) others) is (omega arith) stands in
    (ap suc later.0, later.1)
  where
    rest : (here : Bool) → (if here then b ∷ own n between else own n between) ≡ [] → own n between ≡ []
    rest true none = absurd (cons_nil b (own n between) none)
    rest false none = none

-- if the session made no entry then, it has none there
no_entry : (n : ℕ) (xs between : History) (moment : ℕ) (e : Entry) → own n between ≡ [] → e.session ≡ n → length xs ≤ moment → slice_get (xs ++ between) moment ≡ Some e → ⊥
no_entry n xs between moment e others is long stands =
    let within = slice_get_within (xs ++ between) moment e stands in
    let last = own_entry n xs between e moment e others is long (nth_left (xs ++ between) (e ∷ []) moment within ∙ stands) in
    omega (arith, last.0, within)

scope_in : Act → Scope
scope_in (Visit purpose p scope wanted) = scope
scope_in act = Begin

said_in : Answer → Said
said_in (Replied said) = said
said_in (Refused refusal) = Nothing

-- what the entry of a visit says about the visit
visit_is : (w : Walk) (k : Datum) (e : Entry) (scope : Scope) (wanted : ℕ) (said : Said) → IsVisit w k e → e ≡ visit_entry w scope wanted said → covers (settings_of w.options) scope (next_in said) k ≡ true
unfolding scope_in said_in
visit_is w k e scope wanted said v is =
    let scopes : v.scope ≡ scope = ap (λ (d : Entry). scope_in d.act) (sym v.made ∙ is) in
    let saids : v.said ≡ said = ap (λ (d : Entry). said_in d.answer) (sym v.made ∙ is) in
    subst (λ (s : Scope). covers (settings_of w.options) s (next_in said) k ≡ true) scopes (subst (λ (s : Said). covers (settings_of w.options) v.scope (next_in s) k ≡ true) saids v.covered)

-- ---- moments that existed before

front_moment : (w : Walk) (calls : List Span) (now later : Views) (more : History) (k : Datum) (moment : ℕ) → later (part_of_key w k) ≡ now (part_of_key w k) ++ more → moment < length (now (part_of_key w k)) → IsMoment w calls later k moment → IsMoment w calls now k moment
front_moment w calls now later more k moment grown within m = record {
  call = m.call;
  made = m.made;
  within = m.within;
  entry = m.entry;
  stands = sym (nth_left (now (part_of_key w k)) more moment within) ∙ ap (λ (log : History). slice_get log moment) (sym grown) ∙ m.stands;
  visit = m.visit;
}

shorter_call : (w : Walk) (calls : List Span) (before now later is_now : Views) (k : Datum) (moment : ℕ) → moment < length (now (part_of_key w k)) → IsMoment w (calls ++ span before later ∷ []) is_now k moment → IsMoment w (calls ++ span before now ∷ []) is_now k moment
shorter_call w calls before now later is_now k moment short m = of (Contains-push_cases calls (span before later) m.call m.made)
  where
    of : Contains calls m.call ⊎ (span before later ≡ m.call) → IsMoment w (calls ++ span before now ∷ []) is_now k moment
    of (inl old) = record {
      call = m.call;
      made = Contains-append_left calls (span before now ∷ []) m.call old;
      within = m.within;
      entry = m.entry;
      stands = m.stands;
      visit = m.visit;
    }
    of (inr last) =
        let within = subst (λ (c : Span). (length (c.before (part_of_key w k)) ≤ moment) × (moment < length (c.after (part_of_key w k)))) (sym last) m.within in
        record {
          call = span before now;
          made = Contains-push calls (span before now);
          within = (within.0, short);
          entry = m.entry;
          stands = m.stands;
          visit = m.visit;
        }

-- a call that has seen nothing has no moment
empty_call : (w : Walk) (calls : List Span) (v now : Views) (k : Datum) (moment : ℕ) → IsMoment w (calls ++ span v v ∷ []) now k moment → IsMoment w calls now k moment
empty_call w calls v now k moment m = of (Contains-push_cases calls (span v v) m.call m.made)
  where
    of : Contains calls m.call ⊎ (span v v ≡ m.call) → IsMoment w calls now k moment
    of (inl old) = record {
      call = m.call;
      made = old;
      within = m.within;
      entry = m.entry;
      stands = m.stands;
      visit = m.visit;
    }
    of (inr last) =
        let within = subst (λ (c : Span). (length (c.before (part_of_key w k)) ≤ moment) × (moment < length (c.after (part_of_key w k)))) (sym last) m.within in
        absurd (omega (arith, within.0, within.1))

-- ---- one visit

entry_behind : (h : Home) (w : Walk) (wanted : ℕ → ℕ) (a b : Way) → IsAt h w → (v : Visits h w wanted a b) → b.views (part_at w a.at) ≡ past_of h w (wanted (length a.gained)) a b v.said v.turned ++ visit_entry w (scope_at w a.at) (wanted (length a.gained)) v.said ∷ []
entry_behind h w wanted a b is_at v =
    subst (λ (n : ℕ). b.views (part_at w a.at) ≡ past_of h w (wanted (length a.gained)) a b v.said v.turned ++ (record { session = n; act = Visit w.purpose w.program (scope_at w a.at) (wanted (length a.gained)); answer = Replied v.said }) ∷ []) is_at.number v.turned.here.grown

legal_there : (h : Home) (w : Walk) (wanted : ℕ → ℕ) (a b : Way) → IsAt h w → (v : Visits h w wanted a b) → IsLegal (settings_of w.options) (past_of h w (wanted (length a.gained)) a b v.said v.turned ++ visit_entry w (scope_at w a.at) (wanted (length a.gained)) v.said ∷ [])
legal_there h w wanted a b is_at v =
    subst (IsLegal (settings_of w.options)) (entry_behind h w wanted a b is_at v) (subst (λ (o : Options). IsLegal (settings_of o) (b.views (part_at w a.at))) is_at.options v.turned.here.legal)

-- a visit covers a key, and its moment is directly before the visit
record IsHere (w : Walk) (at : Position) (past : History) (said : Said) (k : Datum) (moment : ℕ) : Type 0 where
  pub last : moment ≡ length past
  pub covers : is_covered w at (next_in said) k ≡ true

-- a moment after a visit is one from before it, or the visit's
visit_moment : (h : Home) (w : Walk) (wanted : ℕ → ℕ) (calls : List Span) (before : Views) (a b : Way) (k : Datum) (moment : ℕ) → IsAt h w → IsWalk w → AreLegal w.options a.views → (v : Visits h w wanted a b) → IsMoment w (calls ++ span before b.views ∷ []) b.views k moment → IsMoment w (calls ++ span before a.views ∷ []) a.views k moment ⊎ IsHere w a.at (past_of h w (wanted (length a.gained)) a b v.said v.turned) v.said k moment
visit_moment h w wanted calls before a b k moment is_at walk legal v m =
    let p = part_of_key w k in
    let grown = visit_grown h w wanted a b is_at legal v p (key_inside w k walk) in
    by_test (nat_lt moment (length (a.views p))) _
    (λ old. let short = ltb-true moment (length (a.views p)) old in
    inl (front_moment w (calls ++ span before a.views ∷ []) a.views b.views grown.0 k moment grown.1 short (shorter_call w calls before a.views b.views b.views k moment short m)))
    (λ new. let long = ltb-false moment (length (a.views p)) new in
    by_test (p == part_at w a.at) _
    (λ here. inr (behind long here (eqb-true p (part_at w a.at) here)))
    (λ other. let within = slice_get_within (b.views p) moment m.entry m.stands in
    let short : moment < length (a.views p) = subst (λ (log : History). moment < length log) (v.turned.rest p (eqb-false p (part_at w a.at) other)) within in
    absurd (omega (arith, short, long))))
  where
    behind : length (a.views (part_of_key w k)) ≤ moment → (part_of_key w k == part_at w a.at) ≡ true → part_of_key w k ≡ part_at w a.at → IsHere w a.at (past_of h w (wanted (length a.gained)) a b v.said v.turned) v.said k moment
    behind long test here =
        let entry = visit_entry w (scope_at w a.at) (wanted (length a.gained)) v.said in
        let stands : slice_get ((a.views (part_at w a.at) ++ v.turned.here.between) ++ entry ∷ []) moment ≡ Some m.entry =
        ap (λ (log : History). slice_get log moment) (sym (ap b.views here ∙ entry_behind h w wanted a b is_at v)) ∙ m.stands in
        let far : length (a.views (part_at w a.at)) ≤ moment = subst (λ (q : ℕ). length (a.views q) ≤ moment) here long in
        let others : own w.number v.turned.here.between ≡ [] = subst (λ (n : ℕ). own n v.turned.here.between ≡ []) is_at.number v.turned.here.others.others in
        let last = own_entry w.number (a.views (part_at w a.at)) v.turned.here.between entry moment m.entry others (ap (λ (e : Entry). e.session) m.visit.made) far stands in
        record { last = last.0; covers = and_from (part_of_key w k == part_at w a.at) _ test (visit_is w k m.entry (scope_at w a.at) (wanted (length a.gained)) v.said m.visit last.1) }

visit_once : (h : Home) (w : Walk) (wanted : ℕ → ℕ) (calls : List Span) (before : Views) (a b : Way) → IsAt h w → IsWalk w → AreLegal w.options a.views → IsPosition w a.views a.at → a.at ≢ Over → Visits h w wanted a b → IsOnce w (calls ++ span before a.views ∷ []) a.views (is_done w a.at) → IsOnce w (calls ++ span before b.views ∷ []) b.views (is_done w b.at)
visit_once h w wanted calls before a b is_at walk legal position more v o = record {
  seen = λ call made part inside. still call part inside (Contains-push_cases calls (span before b.views) call made);
  covered = λ k moment m. done_then k moment (visit_moment h w wanted calls before a b k moment is_at walk legal v m);
  once = λ k m n first second. same k m n (visit_moment h w wanted calls before a b k m is_at walk legal v first) (visit_moment h w wanted calls before a b k n is_at walk legal v second);
}
  where
    done_more : (k : Datum) → is_done w b.at k ≡ (is_done w a.at k || is_covered w a.at (next_in v.said) k)
    done_more k =
        ap (λ (at : Position). is_done w at k) v.at
        ∙ done_next w a.views (state_after (settings_of w.options) (past_of h w (wanted (length a.gained)) a b v.said v.turned)).base a.at (next_in v.said) k position more (visits_led (settings_of w.options) (past_of h w (wanted (length a.gained)) a b v.said v.turned) w.number w.purpose w.program (scope_at w a.at) (wanted (length a.gained)) v.said (legal_there h w wanted a b is_at v))

    still : (call : Span) (part : ℕ) → part < w.options.parts → Contains calls call ⊎ (span before b.views ≡ call) → length (call.after part) ≤ length (b.views part)
    still call part inside (inl old) =
        let g = visit_grown h w wanted a b is_at legal v part inside in
        let long = length-append (a.views part) g.0 in
        let first = o.seen call (Contains-append_left calls (span before a.views ∷ []) call old) part inside in
        subst (λ (log : History). length (call.after part) ≤ length log) (sym g.1) (omega (arith, long, first))
    still call part inside (inr last) =
        subst (λ (c : Span). length (c.after part) ≤ length (b.views part)) last (omega arith)

    done_then : (k : Datum) (moment : ℕ) → IsMoment w (calls ++ span before a.views ∷ []) a.views k moment ⊎ IsHere w a.at (past_of h w (wanted (length a.gained)) a b v.said v.turned) v.said k moment → is_done w b.at k ≡ true
    done_then k moment (inl old) = done_more k ∙ or_left (is_done w a.at k) _ (o.covered k moment old)
    done_then k moment (inr new) = done_more k ∙ or_right (is_done w a.at k) _ new.covers

    apart : (k : Datum) (m n : ℕ) → IsMoment w (calls ++ span before a.views ∷ []) a.views k m → IsHere w a.at (past_of h w (wanted (length a.gained)) a b v.said v.turned) v.said k n → ⊥
    apart k m n old new =
        true≢false (sym (o.covered k m old) ∙ covered_anew w a.views a.at (next_in v.said) k walk position more new.covers)

    same : (k : Datum) (m n : ℕ) → IsMoment w (calls ++ span before a.views ∷ []) a.views k m ⊎ IsHere w a.at (past_of h w (wanted (length a.gained)) a b v.said v.turned) v.said k m → IsMoment w (calls ++ span before a.views ∷ []) a.views k n ⊎ IsHere w a.at (past_of h w (wanted (length a.gained)) a b v.said v.turned) v.said k n → m ≡ n
    same k m n (inl first) (inl second) = o.once k m n first second
    same k m n (inl first) (inr second) = absurd (apart k m n first second)
    same k m n (inr first) (inl second) = absurd (apart k n m second first)
    same k m n (inr first) (inr second) =
        first.last ∙ sym second.last

-- ---- any number of visits

stays_once : (w : Walk) (calls : List Span) (v : Views) (done : Datum → Bool) → IsOnce w calls v done → IsOnce w (calls ++ span v v ∷ []) v done
stays_once w calls v done o = record {
  seen = λ call made part inside. still call part inside (Contains-push_cases calls (span v v) call made);
  covered = λ k moment m. o.covered k moment (empty_call w calls v v k moment m);
  once = λ k m n first second. o.once k m n (empty_call w calls v v k m first) (empty_call w calls v v k n second);
}
  where
    still : (call : Span) (part : ℕ) → part < w.options.parts → Contains calls call ⊎ (span v v ≡ call) → length (call.after part) ≤ length (v part)
    still call part inside (inl old) = o.seen call old part inside
    still call part inside (inr last) = subst (λ (c : Span). length (c.after part) ≤ length (v part)) last (omega arith)

pub goes_once : (h : Home) (w : Walk) (wanted : ℕ → ℕ) (calls : List Span) (a b : Way) → IsAt h w → IsWalk w → AreLegal w.options a.views → IsPosition w a.views a.at → IsOnce w calls a.views (is_done w a.at) → Goes h w wanted a b → IsOnce w (calls ++ span a.views b.views ∷ []) b.views (is_done w b.at)
goes_once h w wanted calls a b is_at walk legal position o stays = stays_once w calls a.views (is_done w a.at) o
goes_once h w wanted calls a c is_at walk legal position o (goes {b} way more v) =
    visit_once h w wanted calls a.views b c is_at walk
    (grown_legal w.options a.views b.views (goes_grown h w wanted a b is_at legal way))
    (goes_position h w wanted a b is_at walk position way) more v
    (goes_once h w wanted calls a b is_at walk legal position o way)

pub begins_once : (w : Walk) (now : Views) → IsOnce w [] now (is_done w (start_of w))
begins_once w now = record {
  seen = λ call made part inside. absurd (omega (arith, made.1));
  covered = λ k moment m. absurd (none m.made);
  once = λ k m n first second. absurd (none first.made);
}
  where
    none : {c : Span} → Contains [] c → ⊥
    none made = omega (arith, made.1)

-- ---- what others do

pub grown_once : (w : Walk) (calls : List Span) (now later : Views) (done : Datum → Bool) → IsWalk w → IsGrown w.options now later → IsOnce w calls now done → IsOnce w calls later done
grown_once w calls now later done walk grown o = record {
  seen = λ call made part inside. let g = grown part inside in
      let long = length-append (now part) g.0 in
      let first = o.seen call made part inside in
      subst (λ (log : History). length (call.after part) ≤ length log) (sym g.1) (omega (arith, long, first));
  covered = λ k moment m. o.covered k moment (was k moment m);
  once = λ k m n first second. o.once k m n (was k m first) (was k n second);
}
  where
    was : (k : Datum) (moment : ℕ) → IsMoment w calls later k moment → IsMoment w calls now k moment
    was k moment m =
        let inside = key_inside w k walk in
        let g = grown (part_of_key w k) inside in
        let long = o.seen m.call m.made (part_of_key w k) inside in
        front_moment w calls now later g.0 k moment g.1 (omega (arith, long, m.within.1)) m

drifts_once : (h : Home) (w : Walk) (calls : List Span) (before last now : Views) (done : Datum → Bool) → IsAt h w → IsWalk w → Drifted h last now → IsOnce w (calls ++ span before last ∷ []) last done → IsOnce w (calls ++ span before now ∷ []) now done
drifts_once h w calls before last now done is_at walk drifted o = record {
  seen = λ call made part inside. still call part inside (Contains-push_cases calls (span before now) call made);
  covered = λ k moment m. o.covered k moment (was k moment m);
  once = λ k m n first second. o.once k m n (was k m first) (was k n second);
}
  where
    still : (call : Span) (part : ℕ) → part < w.options.parts → Contains calls call ⊎ (span before now ≡ call) → length (call.after part) ≤ length (now part)
    still call part inside (inl old) =
        let g = drifted_grown h w.options last now is_at.options drifted part inside in
        let long = length-append (last part) g.0 in
        let first = o.seen call (Contains-append_left calls (span before last ∷ []) call old) part inside in
        subst (λ (log : History). length (call.after part) ≤ length log) (sym g.1) (omega (arith, long, first))
    still call part inside (inr end) =
        subst (λ (c : Span). length (c.after part) ≤ length (now part)) end (omega arith)

    was : (k : Datum) (moment : ℕ) → IsMoment w (calls ++ span before now ∷ []) now k moment → IsMoment w (calls ++ span before last ∷ []) last k moment
    was k moment m =
        let p = part_of_key w k in
        let d = drifted p (subst (λ (q : Options). p < q.parts) (sym is_at.options) (key_inside w k walk)) in
        by_test (nat_lt moment (length (last p))) _
        (λ old. let short = ltb-true moment (length (last p)) old in
        front_moment w (calls ++ span before last ∷ []) last now d.0 k moment d.2 short (shorter_call w calls before last now now k moment short m))
        (λ new. absurd (no_entry w.number (last p) d.0 moment m.entry (subst (λ (n : ℕ). own n d.0 ≡ []) is_at.number d.1.others) (ap (λ (e : Entry). e.session) m.visit.made) (ltb-false moment (length (last p)) new) (ap (λ (log : History). slice_get log moment) (sym d.2) ∙ m.stands)))

pub stops_once : (h : Home) (w : Walk) (wanted : ℕ → ℕ) (calls : List Span) (a : Way) (at : Position) (gained : List Datum) (now : Views) → IsAt h w → IsWalk w → AreLegal w.options a.views → IsPosition w a.views a.at → IsOnce w calls a.views (is_done w a.at) → Stops h w wanted a at gained now → IsOnce w (calls ++ span a.views now ∷ []) now (is_done w at)
stops_once h w wanted calls a at gained now is_at walk legal position o (last, way, drifted) =
    drifts_once h w calls a.views last now (is_done w at) is_at walk drifted (goes_once h w wanted calls a (record { views = last; at = at; gained = gained }) is_at walk legal position o way)

-- ---- what a walk collects, and what it removes

marked_at : (w : Walk) (calls : List Span) (now : Views) (marks : List Mark) (k : Datum) → All (λ m. IsMoment w calls now m.key m.moment) marks → Contains (map (λ m. m.key) marks) k → (moment : ℕ) × Contains marks (record { key = k; moment = moment }) × IsMoment w calls now k moment
marked_at w calls now [] k moments (n, within, is) = absurd (omega (arith, within))
marked_at w calls now (m ∷ marks) k moments (zero, within, is) =
    let there : IsMoment w calls now m.key m.moment = All-head (λ l. IsMoment w calls now l.key l.moment) m marks moments in
    subst (λ (j : Datum). (moment : ℕ) × Contains (m ∷ marks) (record { key = j; moment = moment }) × IsMoment w calls now j moment) is
    (m.moment, (0, omega arith, refl), there)
marked_at w calls now (m ∷ marks) k moments (suc n, within, is) =
    let later = marked_at w calls now marks k (All-tail (λ l. IsMoment w calls now l.key l.moment) m marks moments) (n, omega (arith, within), is) in
    (later.0, (suc later.1.0, omega (arith, later.1.1), later.1.2), later.2)

pub moments_marked : (w : Walk) (calls : List Span) (now : Views) (done : Datum → Bool) (answers : List Datum) → (g : Gathers w calls now done answers) → IsOnce w calls now done → (k : Datum) (moment : ℕ) → IsMoment w calls now k moment → Contains g.marks (record { key = k; moment = moment }) ⊎ (answers_at w now k moment ≡ [])
moments_marked w calls now done answers g o k moment m = of (g.silent k (o.covered k moment m))
  where
    of : IsMet w calls now g.marks k → Contains g.marks (record { key = k; moment = moment }) ⊎ (answers_at w now k moment ≡ [])
    of (inl marked) =
        let there = marked_at w calls now g.marks k g.moments marked in
        inl (subst (λ (n : ℕ). Contains g.marks (record { key = k; moment = n })) (o.once k there.0 moment there.2 m) there.1)
    of (inr (other, is, none)) = inr (subst (λ (n : ℕ). answers_at w now k n ≡ []) (o.once k other moment is m) none)

-- if no object passes a test, none is removed
none_out : (test : Datum → Bool) (ts : List Datum) → filter test ts ≡ [] → filter (λ t. not (test t)) ts ≡ ts
none_out test [] none = refl
none_out test (t ∷ ts) none = of (λ h. none_out test ts h) (test t) refl
  where
    cons_not : (us : List Datum) → t ∷ us ≡ [] → ⊥
    cons_not us is = omega (arith, ap length is)

    of : (filter test ts ≡ [] → filter (λ u. not (test u)) ts ≡ ts) → (b : Bool) → test t ≡ b → filter (λ u. not (test u)) (t ∷ ts) ≡ t ∷ ts
    of rest true is = absurd (cons_not (filter test ts) (sym (ap (λ (c : Bool). if c then t ∷ filter test ts else filter test ts) is) ∙ none))
    of rest false is =
        ap (λ (c : Bool). if not c then t ∷ filter (λ u. not (test u)) ts else filter (λ u. not (test u)) ts) is
        ∙ ap (λ us. t ∷ us) (rest (sym (ap (λ (c : Bool). if c then t ∷ filter test ts else filter test ts) is) ∙ none))

deleting : (w : Walk) (now : Views) (k : Datum) (moment : ℕ) → w.purpose ≡ Deletes → answers_at w now k moment ≡ filter (is_true w.program) (content_at w now k moment)
deleting w now k moment deletes = ap (λ (purpose : Purpose). yields purpose w.program (content_at w now k moment)) deletes

pub deleting_takes : (w : Walk) (calls : List Span) (now : Views) (done : Datum → Bool) (answers : List Datum) → w.purpose ≡ Deletes → (g : Gathers w calls now done answers) → IsOnce w calls now done → (k : Datum) (place : ℕ) → IsVisitAt w calls now k place → (Contains g.marks (record { key = k; moment = place }) × (content_at w now k (place + 1) ≡ filter (λ t. not (is_true w.program t)) (content_at w now k place)) × (answers_at w now k place ≡ filter (is_true w.program) (content_at w now k place))) ⊎ (content_at w now k (place + 1) ≡ content_at w now k place)
deleting_takes w calls now done answers deletes g o k place v =
    by_test (covers (settings_of w.options) v.scope (next_in v.said) k) _
    (λ covered. let m = moment covered in of m (moments_marked w calls now done answers g o k place m))
    (λ other. inr (ap (content (settings_of w.options) k) (one_more (now (part_of_key w k)) place (visit_entry w v.scope v.wanted v.said) v.stands)
    ∙ takes_nothing (settings_of w.options) (take place (now (part_of_key w k))) w.number w.purpose w.program v.scope v.wanted v.said k (λ same. other)))
  where
    moment : covers (settings_of w.options) v.scope (next_in v.said) k ≡ true → IsMoment w calls now k place
    moment covered = record {
      call = v.call;
      made = v.made;
      within = v.within;
      entry = visit_entry w v.scope v.wanted v.said;
      stands = v.stands;
      visit = record { scope = v.scope; wanted = v.wanted; said = v.said; made = refl; covered = covered };
    }

    of : IsMoment w calls now k place → Contains g.marks (record { key = k; moment = place }) ⊎ (answers_at w now k place ≡ []) → (Contains g.marks (record { key = k; moment = place }) × (content_at w now k (place + 1) ≡ filter (λ t. not (is_true w.program t)) (content_at w now k place)) × (answers_at w now k place ≡ filter (is_true w.program) (content_at w now k place))) ⊎ (content_at w now k (place + 1) ≡ content_at w now k place)
    of m (inl marked) = inl (marked, moment_takes w calls now k place deletes m, deleting w now k place deletes)
    of m (inr none) =
        inr (moment_takes w calls now k place deletes m ∙ none_out (is_true w.program) (content_at w now k place) (sym (deleting w now k place deletes) ∙ none))

-- ---- calls that do more

beyond : {X : Type 0} (P : X → Type 0) (xs more : List X) (i : ℕ) (x : X) → All P more → length xs ≤ i → slice_get (xs ++ more) i ≡ Some x → P x
beyond P [] more i x all long is =
    subst P (get_or_from_slice_get more i x x is) (all i x (slice_get_within more i x is))
beyond P (y ∷ xs) more zero x all long is = absurd (omega (arith, long))
beyond P (y ∷ xs) more (suc i) x all long is = beyond P xs more i x all (omega (arith, long)) is

pub wider_once : (w : Walk) (calls : List Span) (first before after last : Views) (done : Datum → Bool) → IsWalk w → IsQuiet w first before → IsGrown w.options before after → IsQuiet w after last → IsOnce w (calls ++ span before after ∷ []) after done → IsOnce w (calls ++ span first last ∷ []) last done
wider_once w calls first before after last done walk quiet grown still o = record {
  seen = λ call made part inside. seen_still call part inside (Contains-push_cases calls (span first last) call made);
  covered = λ k moment m. o.covered k moment (was k moment m);
  once = λ k m n one two. o.once k m n (was k m one) (was k n two);
}
  where
    seen_still : (call : Span) (part : ℕ) → part < w.options.parts → Contains calls call ⊎ (span first last ≡ call) → length (call.after part) ≤ length (last part)
    seen_still call part inside (inl old) =
        let q = still part inside in
        let long = length-append (after part) q.0 in
        let short = o.seen call (Contains-append_left calls (span before after ∷ []) call old) part inside in
        subst (λ (log : History). length (call.after part) ≤ length log) (sym q.1) (omega (arith, long, short))
    seen_still call part inside (inr end) =
        subst (λ (c : Span). length (c.after part) ≤ length (last part)) end (omega arith)

    was : (k : Datum) (moment : ℕ) → IsMoment w (calls ++ span first last ∷ []) last k moment → IsMoment w (calls ++ span before after ∷ []) after k moment
    was k moment m = of (Contains-push_cases calls (span first last) m.call m.made)
      where
        of : Contains calls m.call ⊎ (span first last ≡ m.call) → IsMoment w (calls ++ span before after ∷ []) after k moment
        of (inl old) =
            let p = part_of_key w k in
            let inside = key_inside w k walk in
            let q = still p inside in
            let made = Contains-append_left calls (span before after ∷ []) m.call old in
            let long = o.seen m.call made p inside in
            front_moment w (calls ++ span before after ∷ []) after last q.0 k moment q.1 (omega (arith, long, m.within.1))
            (record { call = m.call; made = made; within = m.within; entry = m.entry; stands = m.stands; visit = m.visit })
        of (inr end) =
            let p = part_of_key w k in
            let inside = key_inside w k walk in
            let within = subst (λ (c : Span). (length (c.before p) ≤ moment) × (moment < length (c.after p))) (sym end) m.within in
            let q = still p inside in
            let g = grown p inside in
            let b = quiet p inside in
            let there : slice_get (after p ++ q.0) moment ≡ Some m.entry = ap (λ (log : History). slice_get log moment) (sym q.1) ∙ m.stands in
            by_test (nat_lt moment (length (after p))) _
            (λ old. let short = ltb-true moment (length (after p)) old in
            let stands : slice_get (after p) moment ≡ Some m.entry = sym (nth_left (after p) q.0 moment short) ∙ there in
            by_test (nat_lt moment (length (before p))) _
            (λ low. let early = ltb-true moment (length (before p)) low in
            absurd (beyond (λ (e : Entry). IsVisit w k e → ⊥) (first p) b.0 moment m.entry (b.2 k) within.0
            (ap (λ (log : History). slice_get log moment) (sym b.1) ∙ sym (nth_left (before p) g.0 moment early) ∙ ap (λ (log : History). slice_get log moment) (sym g.1) ∙ stands) m.visit))
            (λ high. record {
              call = span before after;
              made = Contains-push calls (span before after);
              within = (ltb-false moment (length (before p)) high, short);
              entry = m.entry;
              stands = stands;
              visit = m.visit;
            }))
            (λ new. absurd (beyond (λ (e : Entry). IsVisit w k e → ⊥) (after p) q.0 moment m.entry (q.2 k) (ltb-false moment (length (after p)) new) there m.visit))

-- entries of others are no visits of the walk
pub others_quiet : (w : Walk) (k : Datum) (between : History) → own w.number between ≡ [] → All (λ e. IsVisit w k e → ⊥) between
others_quiet w k between none i d within v =
    no_entry w.number [] between i (get_or between i d) none (ap (λ (e : Entry). e.session) v.made) (omega arith) (slice_get-get_or between i d within)

-- a turn of the session that isn't a visit is no visit of the walk
pub turned_quiet : (h : Home) (w : Walk) (old new : History) (act : Act) (said : Said) → IsAt h w → ((purpose : Purpose) (p : Program) (scope : Scope) (wanted : ℕ) → act ≢ Visit purpose p scope wanted) → TurnedAt h old act (Some (Replied said)) new → (more : History) × (new ≡ old ++ more) × ((k : Datum) → All (λ e. IsVisit w k e → ⊥) more)
turned_quiet h w old new act said is_at other t =
    let entry : Entry = record { session = h.number; act = act; answer = Replied said } in (
      t.between ++ entry ∷ [],
      t.grown ∙ append_assoc old t.between (entry ∷ []),
      λ k. All-push (λ (e : Entry). IsVisit w k e → ⊥) t.between entry (others_quiet w k t.between (subst (λ (n : ℕ). own n t.between ≡ []) is_at.number t.others.others)) (λ v. other w.purpose w.program v.scope v.wanted (ap (λ (e : Entry). e.act) v.made)),
    )
