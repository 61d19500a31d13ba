-- Legal histories: states, content and counts along them.
use Rattle.std.proofs.Common.{◌≡◌, ℕ, ◌≤◌, ◌<◌, ◌+◌, ◌-◌, List, [], ◌∷◌, ◌++◌, refl, ap, sym, subst, ◌∙◌, arith, length, get_or-set_same, get_or-set_other}
use Rattle.std.specs.Prelude.{Bool, true, false, not, ◌&&◌, ◌==◌, if◌then◌else◌, set, get_or, filter, fold}
use Rattle.std.proofs.lemmas.Bool.{eqb-true, eqb-false}
use Rattle.std.proofs.lemmas.List.{get_or-replicate}
use Rattle.term_core.specs.Datum.{Datum}
use Rattle.part_core.specs.declared.settings.Settings.{Settings}
use Rattle.part_core.specs.Acts.{Act, Answer, Entry, History, is_refused}
use Rattle.part_core.specs.Acts.Act.{Fix, Unfix, Release}
use Rattle.part_core.specs.Acts.Answer.{Replied, Refused}
use Rattle.part_core.specs.Rows.{PartState, opening, is_fixed, is_live, objects_at}
use Rattle.part_core.specs.Replies.{reply_of, fixes_of}
use Rattle.part_core.specs.After.{after, rows_after, counts_after}
use Rattle.part_core.specs.Legal.{state_from, state_after, IsRight, IsLegalFrom, IsLegal, fixes_after, fix_count}
use Rattle.part_core.specs.Content.{written, content}
use Rattle.part_core.specs.States.{IsState, IsBase}
use Rattle.part_core.proofs.KeyLemmas.{by_test}
use Rattle.part_core.proofs.StateLemmas.{after_replied, after_refused, content_step}
use Rattle.part_core.proofs.StepLemmas.{opening_state, slots_grow, state_step}

-- ---- one history after another

pub state_more : (o : Settings) (s : PartState) (xs ys : History) → state_from o s (xs ++ ys) ≡ state_from o (state_from o s xs) ys
state_more o s [] ys = refl
state_more o s (e ∷ xs) ys = state_more o (after o s e.session e.act) xs ys

pub legal_front_from : (o : Settings) (s : PartState) (xs ys : History) → IsLegalFrom o s (xs ++ ys) → IsLegalFrom o s xs
legal_front_from o s [] ys h = tt
legal_front_from o s (e ∷ xs) ys h = (h.0, legal_front_from o (after o s e.session e.act) xs ys h.1)

pub legal_rest_from : (o : Settings) (s : PartState) (xs ys : History) → IsLegalFrom o s (xs ++ ys) → IsLegalFrom o (state_from o s xs) ys
legal_rest_from o s [] ys h = h
legal_rest_from o s (e ∷ xs) ys h = legal_rest_from o (after o s e.session e.act) xs ys h.1

pub legal_on_from : (o : Settings) (s : PartState) (xs ys : History) → IsLegalFrom o s xs → IsLegalFrom o (state_from o s xs) ys → IsLegalFrom o s (xs ++ ys)
legal_on_from o s [] ys h more = more
legal_on_from o s (e ∷ xs) ys h more = (h.0, legal_on_from o (after o s e.session e.act) xs ys h.1 more)

-- ---- states and content

right_step : (o : Settings) (s : PartState) (e : Entry) → IsRight o s e → IsState o s → IsState o (after o s e.session e.act)
right_step o s e right state = state_step o s e.session e.act e.answer (sym right.answer) state

pub states_from : (o : Settings) (s : PartState) (es : History) → IsState o s → IsLegalFrom o s es → IsState o (state_from o s es)
states_from o s [] state legal = state
states_from o s (e ∷ es) state legal =
    states_from o (after o s e.session e.act) es (right_step o s e legal.0 state) legal.1

pub state_of : (o : Settings) (log : History) → IsLegal o log → IsState o (state_after o log)
state_of o log legal = states_from o (opening o) log (opening_state o) legal

content_from : (o : Settings) (k : Datum) (s : PartState) (es : History) → IsState o s → IsLegalFrom o s es → objects_at (state_from o s es).rows k ≡ fold (λ os (e : Entry). written o k os e.act e.answer) (objects_at s.rows k) es
content_from o k s [] state legal = refl
content_from o k s (e ∷ es) state legal =
    content_from o k (after o s e.session e.act) es (right_step o s e legal.0 state) legal.1
    ∙ ap (λ os. fold (λ os (e : Entry). written o k os e.act e.answer) os es) (content_step o s e.session e.act k e.answer state (sym legal.0.answer))

pub content_of : (o : Settings) (log : History) (k : Datum) → IsLegal o log → objects_at (state_after o log).rows k ≡ content o k log
content_of o log k legal = content_from o k (opening o) log (opening_state o) legal

-- ---- counts of fixes

set_count : (fixes : List ℕ) (m n x : ℕ) → n < length fixes → get_or (set fixes m x) n 0 ≡ (if m == n then x else get_or fixes n 0)
set_count fixes m n x within =
    by_test (m == n) _
    (λ holds. rw holds (subst (λ i. get_or (set fixes i x) n 0 ≡ x) (sym (eqb-true m n holds)) (get_or-set_same fixes n x 0 within)))
    (λ fails. rw fails (get_or-set_other fixes m n x 0 (λ e. eqb-false m n fails (sym e))))

at_same : (fixes : List ℕ) (m n : ℕ) (f : ℕ → ℕ) → (if m == n then f (get_or fixes m 0) else get_or fixes n 0) ≡ (if m == n && true then f (get_or fixes n 0) else get_or fixes n 0)
at_same fixes m n f =
    by_test (m == n) _ (λ holds. rw holds (ap (λ i. f (get_or fixes i 0)) (eqb-true m n holds))) (λ fails. rw fails refl)

either : (b : Bool) (x : ℕ) → x ≡ (if b then x else x)
either true x = refl
either false x = refl

counted : (fixes : List ℕ) (m n : ℕ) (act : Act) → n < length fixes → get_or (counts_after fixes m act) n 0 ≡ (if m == n && true then fixes_after act (get_or fixes n 0) else get_or fixes n 0)
counted fixes m n Fix within = set_count fixes m n (get_or fixes m 0 + 1) within ∙ at_same fixes m n (λ x. x + 1)
counted fixes m n Unfix within = set_count fixes m n (get_or fixes m 0 - 1) within ∙ at_same fixes m n (λ x. x - 1)
counted fixes m n Release within = set_count fixes m n 0 within ∙ at_same fixes m n (λ x. 0)
counted fixes m n act within = either (m == n && true) (get_or fixes n 0)

count_step : (o : Settings) (s : PartState) (m n : ℕ) (act : Act) (answer : Answer) → IsState o s → n < o.sessions → reply_of o s m act ≡ answer → fixes_of (after o s m act) n ≡ (if m == n && not (is_refused answer) then fixes_after act (fixes_of s n) else fixes_of s n)
count_step o s m n act (Refused refusal) state within is =
    ap (λ (t : PartState). fixes_of t n) (after_refused o s m act refusal is) ∙ none (m == n)
  where
    none : (b : Bool) → fixes_of s n ≡ (if b && false then fixes_after act (fixes_of s n) else fixes_of s n)
    none true = refl
    none false = refl
count_step o s m n act (Replied said) state within is =
    ap (λ (t : PartState). fixes_of t n) (after_replied o s m act said is) ∙ counted s.fixes m n act (omega (arith, state.sessions))

counts_from : (o : Settings) (n : ℕ) (s : PartState) (es : History) → IsState o s → n < o.sessions → IsLegalFrom o s es → fixes_of (state_from o s es) n ≡ fold (λ count (e : Entry). if e.session == n && not (is_refused e.answer) then fixes_after e.act count else count) (fixes_of s n) es
counts_from o n s [] state within legal = refl
counts_from o n s (e ∷ es) state within legal =
    counts_from o n (after o s e.session e.act) es (right_step o s e legal.0 state) within legal.1
    ∙ ap (λ c. fold (λ count (e : Entry). if e.session == n && not (is_refused e.answer) then fixes_after e.act count else count) c es) (count_step o s e.session n e.act e.answer state within (sym legal.0.answer))

pub counts_of : (o : Settings) (log : History) (n : ℕ) → IsLegal o log → n < o.sessions → fixes_of (state_after o log) n ≡ fix_count n log
counts_of o log n legal within =
    counts_from o n (opening o) log (opening_state o) within legal ∙ ap (λ c. fold (λ count (e : Entry). if e.session == n && not (is_refused e.answer) then fixes_after e.act count else count) c log) (get_or-replicate o.sessions n 0 0 within)

-- ---- the base

base_step : (o : Settings) (s : PartState) (n : ℕ) (act : Act) (answer : Answer) → IsState o s → reply_of o s n act ≡ answer → s.base ≤ (after o s n act).base
base_step o s n act (Refused refusal) state is =
    subst (λ (t : PartState). s.base ≤ t.base) (sym (after_refused o s n act refusal is)) (omega arith)
base_step o s n act (Replied said) state is =
    subst (λ (t : PartState). s.base ≤ t.base) (sym (after_replied o s n act said is)) (by_test (is_fixed (counts_after s.fixes n act)) _ (λ holds. rw holds (omega arith)) (λ fails. rw fails (omega (arith, state.base.1, (slots_grow o.kind (length s.rows) (length (filter is_live (rows_after o s act))) s.slots state.slots).1))))

pub base_from : (o : Settings) (s : PartState) (es : History) → IsState o s → IsLegalFrom o s es → s.base ≤ (state_from o s es).base
base_from o s [] state legal = omega arith
base_from o s (e ∷ es) state legal =
    omega (arith, base_step o s e.session e.act e.answer state (sym legal.0.answer), base_from o (after o s e.session e.act) es (right_step o s e legal.0 state) legal.1)

pub base_over : (o : Settings) (past more : History) → IsLegal o (past ++ more) → ((state_after o past).base ≤ (state_after o (past ++ more)).base) × (IsBase (state_after o past).base × IsBase (state_after o (past ++ more)).base)
base_over o past more legal =
    let front : IsLegal o past = legal_front_from o (opening o) past more legal in (
      subst (λ (t : PartState). (state_after o past).base ≤ t.base) (sym (state_more o (opening o) past more)) (base_from o (state_after o past) more (state_of o past front) (legal_rest_from o (opening o) past more legal)),
      ((state_of o past front).base.0, (state_of o (past ++ more) legal).base.0),
    )
