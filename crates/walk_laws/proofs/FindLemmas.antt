-- What the turns of a call find: the first key of the parts from one on, and the key after another.
use Rattle.std.proofs.Common.{◌≡◌, ℕ, ◌<◌, ◌≤◌, ◌==◌, ◌⊎◌, inl, inr, List, [], ◌++◌, ap, sym, subst, ◌∙◌, arith, append_assoc}
use Rattle.std.specs.Prelude.{Contains, Option, Some, None, nat_lt}
use Rattle.std.proofs.lemmas.Bool.{eqb-true, eqb-false, ltb-true, ltb-false}
use Rattle.std.proofs.lemmas.List.{append-nil}
use Rattle.term_core.specs.Datum.{Datum}
use Rattle.part_core.specs.Acts.{Act, Answer, History}
use Rattle.part_core.specs.Acts.Act.{First, Next}
use Rattle.part_core.specs.Acts.Answer.{Replied}
use Rattle.part_core.specs.Acts.Said.{AtKey}
use Rattle.part_core.specs.Ops.{entries_of}
use Rattle.part_core.specs.Replies.{reply_of}
use Rattle.part_core.proofs.HistoryLemmas.{state_of}
use Rattle.part_core.proofs.KeyLemmas.{by_test}
use Rattle.tables.specs.Options.{settings_of}
use Rattle.tables.specs.Turns.{Home, Views, TurnedAt, Turned}
use Rattle.tables.proofs.TurnLemmas.{turned_right}
use Rattle.walk_core.specs.Moments.{Span, span}
use Rattle.walks.specs.Keys.{Passed, FoundFirst}
use Rattle.walk_laws.proofs.StateLemmas.{IsFirst, first_answered}
use Rattle.walk_laws.proofs.TurnLemmas.{Told, Extends, extends_then, state_at, turn_told}

-- ---- histories that are continued

pub turned_extends : (h : Home) (part : ℕ) (act : Act) (answer : Option Answer) (v w : Views) → Turned h part act answer v w → Extends h v w
turned_extends h part act answer v w t k inside =
    by_test (k == part) _
    (λ here. subst (λ (p : ℕ). (more : History) × (w p ≡ v p ++ more)) (sym (eqb-true k part here))
    (t.here.between ++ entries_of h.number act answer, t.here.grown ∙ append_assoc (v part) t.here.between (entries_of h.number act answer)))
    (λ other. ([], t.rest k (eqb-false k part other) ∙ sym (append-nil (v k))))

pub passed_extends : (h : Home) (from to : ℕ) (v w : Views) → Passed h from to v w → Extends h v w
passed_extends h from to v w passed k inside =
    by_test (nat_lt k from) ((more : History) × (w k ≡ v k ++ more)) (λ low. stays (inl (ltb-true k from low)))
    (λ high. by_test (nat_lt k to) ((more : History) × (w k ≡ v k ++ more))
    (λ below. let t = passed.none k (ltb-false k from high) (ltb-true k to below) in
    (t.between ++ entries_of h.number First (Some (Replied (AtKey None))), t.grown ∙ append_assoc (v k) t.between (entries_of h.number First (Some (Replied (AtKey None))))))
    (λ above. stays (inr (ltb-false k to above))))
  where
    stays : (k < from) ⊎ (to ≤ k) → (more : History) × (w k ≡ v k ++ more)
    stays out = ([], passed.rest k out ∙ sym (append-nil (v k)))

pub found_extends : (h : Home) (from : ℕ) (key : Option Datum) (v w : Views) → FoundFirst h from key v w → Extends h v w
found_extends h from None v w passed = passed_extends h from h.options.parts v w passed
found_extends h from (Some k) v w s =
    extends_then h v s.between w (passed_extends h from s.part v s.between s.passed) (turned_extends h s.part First _ s.between w s.last)

-- ---- the first key of a part

-- a turn at a part where no key has objects
pub record IsSilent (h : Home) (calls : List Span) (now : Views) (part : ℕ) : Type 0 where
  pub log : History
  pub told : Told h calls now part log
  pub none : IsFirst (settings_of h.options) (state_at h log) None

-- turns at the parts from one on, of which the last finds the key
pub record IsFound (h : Home) (calls : List Span) (now : Views) (from : ℕ) (j : Datum) : Type 0 where
  pub part : ℕ
  pub low : from ≤ part
  pub inside : part < h.options.parts
  pub silent : (p : ℕ) → from ≤ p → p < part → IsSilent h calls now p
  pub log : History
  pub told : Told h calls now part log
  pub first : IsFirst (settings_of h.options) (state_at h log) (Some j)

abbrev pub Scanned : Home → List Span → Views → ℕ → Option Datum → Type 0
Scanned h calls now from None = (p : ℕ) → from ≤ p → p < h.options.parts → IsSilent h calls now p
Scanned h calls now from (Some j) = IsFound h calls now from j

first_told : (h : Home) (calls : List Span) (before now : Views) (part : ℕ) (old new : History) (key : Option Datum) (x y : History) → Contains calls (span before now) → old ≡ before part ++ x → now part ≡ new ++ y → TurnedAt h old First (Some (Replied (AtKey key))) new → (log : History) × Told h calls now part log × IsFirst (settings_of h.options) (state_at h log) key
first_told h calls before now part old new key x y made front whole t =
    let told = turn_told h calls before now part old new First (Replied (AtKey key)) x y made front whole t in
    (old ++ t.between, told, first_answered (settings_of h.options) (state_at h (old ++ t.between)) h.number key (state_of (settings_of h.options) (old ++ t.between) told.legal) (turned_right h old new First (Replied (AtKey key)) t))

pub scanned : (h : Home) (calls : List Span) (before v now : Views) (from : ℕ) (key : Option Datum) → Contains calls (span before now) → Extends h before v → FoundFirst h from key v now → Scanned h calls now from key
scanned h calls before v now from None made grown passed =
    λ p low inside.
    let g = grown p inside in
    let t = first_told h calls before now p (v p) (now p) None g.0 [] made g.1 (sym (append-nil (now p))) (passed.none p low inside) in
    record { log = t.0; told = t.1; none = t.2 }
scanned h calls before v now from (Some j) made grown s =
    let g = grown s.part s.inside.1 in
    let there : s.between s.part ≡ before s.part ++ g.0 = s.passed.rest s.part (inr (omega arith)) ∙ g.1 in
    let t = first_told h calls before now s.part (s.between s.part) (now s.part) (Some j) g.0 [] made there (sym (append-nil (now s.part))) s.last.here in
    record {
      part = s.part;
      low = s.inside.0;
      inside = s.inside.1;
      silent = λ p low below. silent p low below;
      log = t.0;
      told = t.1;
      first = t.2;
    }
  where
    silent : (p : ℕ) → from ≤ p → p < s.part → IsSilent h calls now p
    silent p low below =
        let g = grown p (let inside = s.inside.1 in omega (arith, below, inside)) in
        let stays : now p ≡ s.between p ++ [] = s.last.rest p (λ same. absurd (omega (arith, same, below))) ∙ sym (append-nil (s.between p)) in
        let t = first_told h calls before now p (v p) (s.between p) None g.0 [] made g.1 stays (s.passed.none p low below) in
        record { log = t.0; told = t.1; none = t.2 }

-- ---- the key after another, in its part

pub next_told : (h : Home) (calls : List Span) (before u now : Views) (part : ℕ) (k : Datum) (answer : Answer) (log x : History) → part < h.options.parts → Contains calls (span before now) → before part ≡ log ++ x → Extends h u now → Turned h part (Next k) (Some answer) before u
    → (mid : History) × Told h calls now part (log ++ mid) × (answer ≡ reply_of (settings_of h.options) (state_at h (log ++ mid)) h.number (Next k))
next_told h calls before u now part k answer log x inside made past grown t =
    let g = grown part inside in
    let joined : before part ++ t.here.between ≡ log ++ (x ++ t.here.between) = ap (λ (es : History). es ++ t.here.between) past ∙ append_assoc log x t.here.between in (
      x ++ t.here.between,
      subst (Told h calls now part) joined (turn_told h calls before now part (before part) (u part) (Next k) answer [] g.0 made (sym (append-nil (before part))) g.1 t.here),
      subst (λ (es : History). answer ≡ reply_of (settings_of h.options) (state_at h es) h.number (Next k)) joined (turned_right h (before part) (u part) (Next k) answer t.here),
    )
