-- Tours: the keys that were met, and what is left.
use Rattle.std.proofs.Common.{◌≡◌, ◌≢◌, ℕ, ◌+◌, ◌<◌, ◌≤◌, ◌⊎◌, inl, inr, List, [], ◌∷◌, ◌++◌, refl, ap, sym, subst, ◌∙◌, arith, append_assoc, length}
use Rattle.std.specs.Prelude.{IsTrue, Option, Some, None, nat_lt, take, drop}
use Rattle.std.specs.List.{AllByRecursion}
use Rattle.std.specs.List.Sorted.{IsStrictlySortedBy}
use Rattle.std.specs.declared.cmp.Ordering.TheVariants.{Less}
use Rattle.std.proofs.lemmas.Bool.{ltb-true, ltb-false}
use Rattle.std.proofs.lemmas.List.{append-nil, length-append, length-take-le, take-append-drop, take-append-le}
use Rattle.std.proofs.lemmas.List.Elements.{Contains-push}
use Rattle.term_core.specs.Datum.{Datum}
use Rattle.term_core.specs.Order.{datum_cmp}
use Rattle.part_core.specs.declared.fault.Fault.TheVariants as fault
use Rattle.part_core.specs.Acts.{History}
use Rattle.part_core.specs.Acts.Act.{Next}
use Rattle.part_core.specs.Acts.Answer.{Replied, Refused}
use Rattle.part_core.specs.Acts.Refusal.{BadKey}
use Rattle.part_core.specs.Acts.Said.{AtKey}
use Rattle.part_core.specs.Content.{content}
use Rattle.part_core.specs.Legal.{IsLegal}
use Rattle.part_core.specs.Replies.{reply_of}
use Rattle.part_core.specs.Rows.{PartState, opening}
use Rattle.part_core.specs.Settings.{is_ordered}
use Rattle.part_core.proofs.HistoryLemmas.{content_of, legal_front_from, state_of}
use Rattle.part_core.proofs.KeyLemmas.{by_test}
use Rattle.tables.specs.Options.{settings_of}
use Rattle.tables.specs.Turns.{Home, Views}
use Rattle.walk_core.specs.Moments.{Span, span, IsGrown}
use Rattle.walks.specs.Keys.{FoundNext, RefusedNext}
use Rattle.walk_laws.specs.Tours.{Tour, Begins, GoesOn, IsTour, IsTurn, IsSteady, Stayed, answered, objects_then}
use Rattle.walk_laws.specs.Tours.IsTour.{begins, goes_on}
use Rattle.walk_laws.proofs.OrderLemmas.{Has, Once, has_left, has_right, has_cases, once_append}
use Rattle.walk_laws.proofs.StateLemmas.{IsThere, IsHeld, IsNext, Precedes, precedes_less, precedes_apart, precedes_then, precedes_held, next_answered, never_bad}
use Rattle.walk_laws.proofs.TurnLemmas.{Told, Extends, extends_none, extends_then, state_at, part_at, key_part, turn_later, turn_within, moment_later, told_later, told_moment, told_there, told_placed, steady_earlier, stayed_earlier, held_between}
use Rattle.walk_laws.proofs.FindLemmas.{Scanned, IsSilent, turned_extends, found_extends, scanned, next_told}

-- the first key is met before the second: in an earlier part, or before it in the same part
abbrev pub IsBeneath : Home → PartState → Datum → Datum → Type 0
IsBeneath h s i k =
    (part_at h i < part_at h k) ⊎ ((part_at h i ≡ part_at h k) × Precedes (settings_of h.options) s i k)

-- what holds of the keys that were met
pub record AreMet (h : Home) (calls : List Span) (keys : List Datum) (now : Views) : Type 0 where
  pub once : Once keys
  pub rising : IsTrue (is_ordered h.options.kind) → IsStrictlySortedBy datum_cmp keys
  pub there : (k : Datum) → Has keys k → (moment : ℕ) × IsTurn h calls now (part_at h k) moment × (objects_then h now k moment ≢ [])

-- A tour has reached a key, at a turn at the key's part: the others that were met are before it, and of the keys that
-- stayed, those before it were met.
pub record IsReached (h : Home) (calls : List Span) (keys : List Datum) (now : Views) (k : Datum) : Type 0 where
  pub log : History
  pub told : Told h calls now (part_at h k) log
  pub there : IsThere (state_at h log) k
  pub behind : (i : Datum) → Has keys i → (i ≡ k) ⊎ IsBeneath h (state_at h log) i k
  pub before : (l : Datum) → Stayed h calls now l → part_at h l < part_at h k → Has keys l
  pub here : (l : Datum) → Stayed h calls now l → part_at h l ≡ part_at h k → Has keys l ⊎ Precedes (settings_of h.options) (state_at h log) k l

-- the position of a tour: at a key, or at its end, where all keys that stayed were met
abbrev pub IsWhere : Home → List Span → List Datum → Views → Option Datum → Type 0
IsWhere h calls keys now None = (l : Datum) → Stayed h calls now l → Has keys l
IsWhere h calls keys now (Some k) = IsReached h calls keys now k

abbrev pub IsToured : Home → List Span → List Datum → Views → Option Datum → Type 0
IsToured h calls keys now last = AreMet h calls keys now × IsWhere h calls keys now last

-- ---- one more key

all_push : (P : Datum → Type 0) (ks : List Datum) (j : Datum) → AllByRecursion P ks → P j → AllByRecursion P (ks ++ j ∷ [])
all_push P [] j all here = (here, tt)
all_push P (k ∷ ks) j all here = (all.0, all_push P ks j all.1 here)

sorted_push : (ks : List Datum) (j : Datum) → IsStrictlySortedBy datum_cmp ks → ((i : Datum) → Has ks i → datum_cmp i j ≡ Less) → IsStrictlySortedBy datum_cmp (ks ++ j ∷ [])
unfolding IsStrictlySortedBy
sorted_push [] j s less = (tt, tt)
sorted_push (k ∷ ks) j s less =
    (all_push (λ i. datum_cmp k i ≡ Less) ks j s.0 (less k (inl refl)), sorted_push ks j s.1 (λ i h. less i (inr h)))

has_last : (ks : List Datum) (j : Datum) → Has (ks ++ j ∷ []) j
has_last ks j = has_right ks (j ∷ []) j (inl refl)

-- a key that has objects, after those that were met, is met too
met_more : (h : Home) (calls : List Span) (keys : List Datum) (now : Views) (log : History) (j : Datum) → IsSteady h calls now → AreMet h calls keys now → Told h calls now (part_at h j) log → IsThere (state_at h log) j → ((i : Datum) → Has keys i → IsBeneath h (state_at h log) i j) → AreMet h calls (keys ++ j ∷ []) now
met_more h calls keys now log j steady met told there beneath = record {
  once = once_append keys (j ∷ []) met.once ((λ none. none), tt) (λ i old new. apart i new (beneath i old));
  rising = λ ordered. sorted_push keys j (met.rising ordered) (λ i old. less ordered i (beneath i old));
  there = λ k has. of k (has_cases keys (j ∷ []) k has);
}
  where
    apart : (i : Datum) → Has (j ∷ []) i → IsBeneath h (state_at h log) i j → ⊥
    apart i (inl same) (inl below) = let parts = ap (part_at h) same in absurd (omega (arith, parts, below))
    apart i (inl same) (inr b) = precedes_apart (settings_of h.options) (state_at h log) j (state_of (settings_of h.options) log told.legal) (subst (λ (k : Datum). Precedes (settings_of h.options) (state_at h log) k j) (sym same) b.1)
    apart i (inr none) b = none

    less : IsTrue (is_ordered h.options.kind) → (i : Datum) → IsBeneath h (state_at h log) i j → datum_cmp i j ≡ Less
    less ordered i (inl below) =
        let one = steady.whole ordered in let inside = key_part h j steady.parts in absurd (omega (arith, one, inside, below))
    less ordered i (inr b) = precedes_less (settings_of h.options) (state_at h log) i j ordered b.1

    of : (k : Datum) → Has keys k ⊎ Has (j ∷ []) k → (moment : ℕ) × IsTurn h calls now (part_at h k) moment × (objects_then h now k moment ≢ [])
    of k (inl old) = met.there k old
    of k (inr (inl same)) =
        subst (λ (i : Datum). (moment : ℕ) × IsTurn h calls now (part_at h i) moment × (objects_then h now i moment ≢ [])) same (
          length log,
          told.turn,
          λ none. there (content_of (settings_of h.options) log j told.legal ∙ sym (ap (content (settings_of h.options) j) (told_moment h calls now (part_at h j) log told)) ∙ none),
        )
    of k (inr (inr none)) = absurd none

arrives : (h : Home) (calls : List Span) (keys : List Datum) (now : Views) (log : History) (j : Datum) → IsSteady h calls now → AreMet h calls keys now → Told h calls now (part_at h j) log → IsThere (state_at h log) j
    → ((i : Datum) → Has keys i → IsBeneath h (state_at h log) i j)
    → ((l : Datum) → Stayed h calls now l → part_at h l < part_at h j → Has keys l)
    → ((l : Datum) → Stayed h calls now l → part_at h l ≡ part_at h j → Has keys l ⊎ ((l ≡ j) ⊎ Precedes (settings_of h.options) (state_at h log) j l))
    → IsToured h calls (keys ++ j ∷ []) now (Some j)
arrives h calls keys now log j steady met told there beneath before here = (
  met_more h calls keys now log j steady met told there beneath,
  record {
    log = log;
    told = told;
    there = there;
    behind = λ i has. behind i (has_cases keys (j ∷ []) i has);
    before = λ l stayed below. has_left keys (j ∷ []) l (before l stayed below);
    here = λ l stayed same. of l (here l stayed same);
  },
)
  where
    behind : (i : Datum) → Has keys i ⊎ Has (j ∷ []) i → (i ≡ j) ⊎ IsBeneath h (state_at h log) i j
    behind i (inl old) = inr (beneath i old)
    behind i (inr (inl same)) = inl (sym same)
    behind i (inr (inr none)) = absurd none

    of : (l : Datum) → Has keys l ⊎ ((l ≡ j) ⊎ Precedes (settings_of h.options) (state_at h log) j l) → Has (keys ++ j ∷ []) l ⊎ Precedes (settings_of h.options) (state_at h log) j l
    of l (inl old) = inl (has_left keys (j ∷ []) l old)
    of l (inr (inl same)) = inl (subst (Has (keys ++ j ∷ [])) (sym same) (has_last keys j))
    of l (inr (inr b)) = inr b

-- ---- the parts from one on

-- if no key was found from a part on, no key that stayed is there
none_left : (h : Home) (calls : List Span) (now : Views) (from to : ℕ) (l : Datum) → ((p : ℕ) → from ≤ p → p < to → IsSilent h calls now p) → Stayed h calls now l → from ≤ part_at h l → part_at h l < to → ⊥
none_left h calls now from to l silent stayed low below =
    let s = silent (part_at h l) low below in s.none l (told_there h calls now l s.log stayed s.told)

scan_arrives : (h : Home) (calls : List Span) (keys : List Datum) (now : Views) (from : ℕ) (key : Option Datum) → IsSteady h calls now → AreMet h calls keys now
    → ((i : Datum) → Has keys i → part_at h i < from)
    → ((l : Datum) → Stayed h calls now l → part_at h l < from → Has keys l)
    → Scanned h calls now from key → IsToured h calls (keys ++ answered key) now key
scan_arrives h calls keys now from None steady met below done silent =
    subst (λ (ks : List Datum). IsToured h calls ks now None) (sym (append-nil keys)) (
      met,
      λ l stayed. by_test (nat_lt (part_at h l) from) (Has keys l) (λ low. done l stayed (ltb-true (part_at h l) from low))
          (λ high. absurd (none_left h calls now from h.options.parts l silent stayed (ltb-false (part_at h l) from high) (key_part h l steady.parts))),
    )
scan_arrives h calls keys now from (Some j) steady met below done f =
    let same : part_at h j ≡ f.part = told_placed h calls now f.part f.log j steady f.inside f.told f.first.0 in
    let low = f.low in
    arrives h calls keys now f.log j steady met (subst (λ (p : ℕ). Told h calls now p f.log) (sym same) f.told) f.first.0
    (λ i old. let under = below i old in inl (omega (arith, under, same, low)))
    (λ l stayed under. by_test (nat_lt (part_at h l) from) (Has keys l) (λ low. done l stayed (ltb-true (part_at h l) from low))
    (λ high. absurd (none_left h calls now from f.part l f.silent stayed (ltb-false (part_at h l) from high) (omega (arith, under, same)))))
    (λ l stayed here. inr (f.first.1 l (told_there h calls now l f.log stayed (subst (λ (p : ℕ). Told h calls now p f.log) (sym (here ∙ same)) f.told))))

-- ---- after the last key

-- the keys that were met stay met, whatever was done since
met_later : (h : Home) (calls more : List Span) (keys : List Datum) (old now : Views) → 0 < h.options.parts → Extends h old now → AreMet h calls keys old → AreMet h (calls ++ more) keys now
met_later h calls more keys old now some grown met = record {
  once = met.once;
  rising = met.rising;
  there = λ k has.
      let m = met.there k has in
      let within = turn_within h calls old (part_at h k) m.0 m.1 in
      (m.0, turn_later h calls more old now (part_at h k) m.0 (key_part h k some) grown m.1, λ none. m.2 (ap (content (settings_of h.options) k) (sym (moment_later h old now (part_at h k) m.0 (key_part h k some) grown (omega (arith, within)))) ∙ none));
}

reached_later : (h : Home) (calls more : List Span) (keys : List Datum) (old now : Views) (k : Datum) → 0 < h.options.parts → Extends h old now → IsReached h calls keys old k → IsReached h (calls ++ more) keys now k
reached_later h calls more keys old now k some grown r = record {
  log = r.log;
  told = told_later h calls more old now (part_at h k) r.log (key_part h k some) grown r.told;
  there = r.there;
  behind = r.behind;
  before = λ l stayed below. r.before l (stayed_earlier h calls more old now l some grown stayed) below;
  here = λ l stayed same. r.here l (stayed_earlier h calls more old now l some grown stayed) same;
}

-- if the next turn at the key's part finds a key, the tour has reached it
next_arrives : (h : Home) (calls : List Span) (keys : List Datum) (now : Views) (k j : Datum) (mid : History) → IsSteady h calls now → AreMet h calls keys now → (r : IsReached h calls keys now k) → Told h calls now (part_at h k) (r.log ++ mid)
    → IsNext (settings_of h.options) (state_at h (r.log ++ mid)) k (Some j) → IsToured h calls (keys ++ j ∷ []) now (Some j)
next_arrives h calls keys now k j mid steady met r told next =
    let inside = key_part h k steady.parts in
    let same : part_at h j ≡ part_at h k = told_placed h calls now (part_at h k) (r.log ++ mid) j steady inside told next.0 in
    arrives h calls keys now (r.log ++ mid) j steady met (subst (λ (p : ℕ). Told h calls now p (r.log ++ mid)) (sym same) told) next.0
    (λ i old. beneath same i (r.behind i old))
    (λ l stayed below. r.before l stayed (omega (arith, below, same)))
    (λ l stayed here. of l stayed (here ∙ same) (r.here l stayed (here ∙ same)))
  where
    held : (i l : Datum) → Precedes (settings_of h.options) (state_at h r.log) i l → Precedes (settings_of h.options) (state_at h (r.log ++ mid)) i l
    held i l b = precedes_held (settings_of h.options) (state_at h r.log) (state_at h (r.log ++ mid)) i l (held_between h calls now (part_at h k) r.log mid (key_part h k steady.parts) steady r.told told) b

    beneath : part_at h j ≡ part_at h k → (i : Datum) → (i ≡ k) ⊎ IsBeneath h (state_at h r.log) i k → IsBeneath h (state_at h (r.log ++ mid)) i j
    beneath same i (inl is) = inr (ap (part_at h) is ∙ sym same, subst (λ (x : Datum). Precedes (settings_of h.options) (state_at h (r.log ++ mid)) x j) (sym is) next.1)
    beneath same i (inr (inl below)) = inl (omega (arith, below, same))
    beneath same i (inr (inr b)) = inr (b.0 ∙ sym same, precedes_then (settings_of h.options) (state_at h (r.log ++ mid)) i k j (state_of (settings_of h.options) (r.log ++ mid) told.legal) (held i k b.1) next.1)

    of : (l : Datum) → Stayed h calls now l → part_at h l ≡ part_at h k → Has keys l ⊎ Precedes (settings_of h.options) (state_at h r.log) k l → Has keys l ⊎ ((l ≡ j) ⊎ Precedes (settings_of h.options) (state_at h (r.log ++ mid)) j l)
    of l stayed same (inl old) = inl old
    of l stayed same (inr b) = inr (next.2 l (told_there h calls now l (r.log ++ mid) stayed (subst (λ (p : ℕ). Told h calls now p (r.log ++ mid)) (sym same) told)) (held k l b))

-- if the next turn finds none, the tour goes through the parts after it
part_ends : (h : Home) (calls : List Span) (keys : List Datum) (now : Views) (k : Datum) (mid : History) (key : Option Datum) → IsSteady h calls now → AreMet h calls keys now → (r : IsReached h calls keys now k) → Told h calls now (part_at h k) (r.log ++ mid)
    → IsNext (settings_of h.options) (state_at h (r.log ++ mid)) k None → Scanned h calls now (part_at h k + 1) key → IsToured h calls (keys ++ answered key) now key
part_ends h calls keys now k mid key steady met r told next scan =
    scan_arrives h calls keys now (part_at h k + 1) key steady met
    (λ i old. below i (r.behind i old))
    (λ l stayed under. by_test (nat_lt (part_at h l) (part_at h k)) (Has keys l)
    (λ low. r.before l stayed (ltb-true (part_at h l) (part_at h k) low))
    (λ high. let up = ltb-false (part_at h l) (part_at h k) high in let same : part_at h l ≡ part_at h k = omega (arith, under, up) in of l stayed same (r.here l stayed same)))
    scan
  where
    held : (i l : Datum) → Precedes (settings_of h.options) (state_at h r.log) i l → Precedes (settings_of h.options) (state_at h (r.log ++ mid)) i l
    held i l b = precedes_held (settings_of h.options) (state_at h r.log) (state_at h (r.log ++ mid)) i l (held_between h calls now (part_at h k) r.log mid (key_part h k steady.parts) steady r.told told) b

    below : (i : Datum) → (i ≡ k) ⊎ IsBeneath h (state_at h r.log) i k → part_at h i < part_at h k + 1
    below i (inl is) = let same = ap (part_at h) is in omega (arith, same)
    below i (inr (inl under)) = omega (arith, under)
    below i (inr (inr b)) = let same = b.0 in omega (arith, same)

    of : (l : Datum) → Stayed h calls now l → part_at h l ≡ part_at h k → Has keys l ⊎ Precedes (settings_of h.options) (state_at h r.log) k l → Has keys l
    of l stayed same (inl old) = old
    of l stayed same (inr b) = absurd (next l (told_there h calls now l (r.log ++ mid) stayed (subst (λ (p : ℕ). Told h calls now p (r.log ++ mid)) (sym same) told)) (held k l b))

-- ---- the first call

nothing_met : (h : Home) (calls : List Span) (now : Views) → AreMet h calls [] now
unfolding IsStrictlySortedBy
nothing_met h calls now = record { once = tt; rising = λ ordered. tt; there = λ k none. absurd none }

begun : (h : Home) (t : Tour) (b : Begins h t) → IsSteady h t.calls t.views → IsToured h t.calls t.keys t.views t.last
begun h t b steady =
    let call : List Span = span b.before t.views ∷ [] in
    subst (λ (calls : List Span). IsToured h calls t.keys t.views t.last) (sym b.calls)
    (subst (λ (keys : List Datum). IsToured h call keys t.views t.last) (sym b.keys)
    (scan_arrives h call [] t.views 0 t.last (subst (λ (calls : List Span). IsSteady h calls t.views) b.calls steady) (nothing_met h call t.views) (λ i none. absurd none) (λ l stayed low. absurd (omega (arith, low)))
    (scanned h call b.before b.before t.views 0 t.last (Contains-push [] (span b.before t.views)) (extends_none h b.before) b.found)))

-- ---- a further call

grown_extends : (h : Home) (v w : Views) → IsGrown h.options v w → Extends h v w
grown_extends h v w grown part inside = let g = grown part inside in (g.0, g.1)

next_extends : (h : Home) (k : Datum) (key : Option Datum) (v w : Views) → FoundNext h k key v w → Extends h v w
next_extends h k key v w (inl (j, is, turned)) = turned_extends h (part_at h k) (Next k) _ v w turned
next_extends h k key v w (inr (u, turned, found)) =
    extends_then h v u w (turned_extends h (part_at h k) (Next k) _ v u turned) (found_extends h (part_at h k + 1) key u w found)

-- what was done at the key's part since the turn that found it
since : (h : Home) (calls : List Span) (keys : List Datum) (old before : Views) (k : Datum) → 0 < h.options.parts → IsGrown h.options old before → (r : IsReached h calls keys old k) → (x : History) × (before (part_at h k) ≡ r.log ++ x)
since h calls keys old before k some grown r =
    let g = grown (part_at h k) (key_part h k some) in
    (r.told.more ++ g.0, g.1 ∙ ap (λ (es : History). es ++ g.0) r.told.whole ∙ append_assoc r.log r.told.more g.0)

next_toured : (h : Home) (calls : List Span) (keys : List Datum) (old before now : Views) (k : Datum) (key : Option Datum) → IsSteady h (calls ++ span before now ∷ []) now → IsGrown h.options old before → AreMet h calls keys old → IsReached h calls keys old k → FoundNext h k key before now → IsToured h (calls ++ span before now ∷ []) (keys ++ answered key) now key
unfolding reached_later
next_toured h calls keys old before now k key steady grown met r (inl (j, is, turned)) =
    let all : List Span = calls ++ span before now ∷ [] in
    let o = settings_of h.options in
    let further = extends_then h old before now (grown_extends h old before grown) (turned_extends h (part_at h k) (Next k) _ before now turned) in
    let past = since h calls keys old before k steady.parts grown r in
    let n = next_told h all before now now (part_at h k) k (Replied (AtKey key)) r.log past.0 (key_part h k steady.parts) (Contains-push calls (span before now)) past.1 (extends_none h now) turned in
    let next : IsNext o (state_at h (r.log ++ n.0)) k key = next_answered o (state_at h (r.log ++ n.0)) h.number k key (state_of o (r.log ++ n.0) n.1.legal) n.2 in
    subst (λ (x : Option Datum). IsToured h all (keys ++ answered x) now x) (sym is)
    (next_arrives h all keys now k j n.0 steady (met_later h calls (span before now ∷ []) keys old now steady.parts further met) (reached_later h calls (span before now ∷ []) keys old now k steady.parts further r) n.1 (subst (λ (x : Option Datum). IsNext o (state_at h (r.log ++ n.0)) k x) is next))
next_toured h calls keys old before now k key steady grown met r (inr (u, turned, found)) =
    let all : List Span = calls ++ span before now ∷ [] in
    let o = settings_of h.options in
    let later = found_extends h (part_at h k + 1) key u now found in
    let first = turned_extends h (part_at h k) (Next k) _ before u turned in
    let further = extends_then h old before now (grown_extends h old before grown) (extends_then h before u now first later) in
    let past = since h calls keys old before k steady.parts grown r in
    let made = Contains-push calls (span before now) in
    let n = next_told h all before u now (part_at h k) k (Replied (AtKey None)) r.log past.0 (key_part h k steady.parts) made past.1 later turned in
    part_ends h all keys now k n.0 key steady (met_later h calls (span before now ∷ []) keys old now steady.parts further met) (reached_later h calls (span before now ∷ []) keys old now k steady.parts further r) n.1
    (next_answered o (state_at h (r.log ++ n.0)) h.number k None (state_of o (r.log ++ n.0) n.1.legal) n.2)
    (scanned h all before u now (part_at h k + 1) key made first found)

gone_on : (h : Home) (s t : Tour) (g : GoesOn h s t) → IsSteady h t.calls t.views → (IsSteady h s.calls s.views → IsToured h s.calls s.keys s.views s.last) → IsToured h t.calls t.keys t.views t.last
gone_on h s t g steady so_far =
    let all : List Span = s.calls ++ span g.before t.views ∷ [] in
    let steady_all : IsSteady h all t.views = subst (λ (calls : List Span). IsSteady h calls t.views) g.calls steady in
    let further = extends_then h s.views g.before t.views (grown_extends h s.views g.before g.meanwhile) (next_extends h g.key t.last g.before t.views g.found) in
    let there = so_far (steady_earlier h s.calls (span g.before t.views ∷ []) s.views t.views further steady_all) in
    subst (λ (calls : List Span). IsToured h calls t.keys t.views t.last) (sym g.calls)
    (subst (λ (keys : List Datum). IsToured h all keys t.views t.last) (sym g.keys)
    (next_toured h s.calls s.keys s.views g.before t.views g.key t.last steady_all g.meanwhile there.0 (subst (λ (x : Option Datum). IsWhere h s.calls s.keys s.views x) g.asked there.1) g.found))

-- ---- every tour

pub toured : (h : Home) (t : Tour) → IsTour h t → IsSteady h t.calls t.views → IsToured h t.calls t.keys t.views t.last
toured h t (begins b) steady = begun h t b steady
toured h t (goes_on {s} tour g) steady = gone_on h s t g steady (λ before. toured h s tour before)

-- ---- a key that was met isn't refused

-- the history before an earlier turn at a part
told_at : (h : Home) (calls : List Span) (now : Views) (part moment : ℕ) (log : History) → Told h calls now part log → IsTurn h calls now part moment → moment ≤ length log → Told h calls now part (take moment log)
told_at h calls now part moment log t turn low =
    let whole : take moment log ++ drop moment log ≡ log = take-append-drop moment log in
    record {
      more = drop moment log ++ t.more;
      whole = t.whole ∙ ap (λ (es : History). es ++ t.more) (sym whole) ∙ append_assoc (take moment log) (drop moment log) t.more;
      turn = subst (IsTurn h calls now part) (sym (length-take-le moment log low)) turn;
      legal = legal_front_from (settings_of h.options) (opening (settings_of h.options)) (take moment log) (drop moment log) (subst (IsLegal (settings_of h.options)) (sym whole) t.legal);
    }

-- a key that had objects at a turn isn't refused at a later turn
row_stays : (h : Home) (calls : List Span) (now : Views) (k : Datum) (moment : ℕ) (log : History) → IsSteady h calls now → Told h calls now (part_at h k) log → IsTurn h calls now (part_at h k) moment → moment ≤ length log → objects_then h now k moment ≢ [] → Refused BadKey ≡ reply_of (settings_of h.options) (state_at h log) h.number (Next k) → ⊥
row_stays h calls now k moment log steady t turn low some refused =
    let o = settings_of h.options in
    let first = told_at h calls now (part_at h k) moment log t turn low in
    let whole : take moment log ++ drop moment log ≡ log = take-append-drop moment log in
    let same : take moment (now (part_at h k)) ≡ take moment log = ap (take moment) t.whole ∙ take-append-le moment log t.more low in
    let held : IsHeld o (state_at h (take moment log)) (state_at h (take moment log ++ drop moment log)) = held_between h calls now (part_at h k) (take moment log) (drop moment log) (key_part h k steady.parts) steady first (subst (Told h calls now (part_at h k)) (sym whole) t) in
    never_bad o (state_at h (take moment log)) (state_at h log) h.number k
    (λ none. some (ap (content o k) same ∙ sym (content_of o (take moment log) k first.legal) ∙ none))
    (subst (λ (es : History). IsHeld o (state_at h (take moment log)) (state_at h es)) whole held)
    refused

pub not_refused : (h : Home) (t : Tour) (k : Datum) (before after : Views) → IsTour h t → Has t.keys k → IsGrown h.options t.views before → IsSteady h (t.calls ++ span before after ∷ []) after → RefusedNext h k fault.BadKey before after → ⊥
not_refused h t k before after tour has grown steady (inl turned) =
    let all : List Span = t.calls ++ span before after ∷ [] in
    let part : ℕ = part_at h k in
    let inside = key_part h k steady.parts in
    let further = extends_then h t.views before after (grown_extends h t.views before grown) (turned_extends h part (Next k) _ before after turned) in
    let met = (toured h t tour (steady_earlier h t.calls (span before after ∷ []) t.views after further steady)).0 in
    let m = met.there k has in
    let within = turn_within h t.calls t.views part m.0 m.1 in
    let g = grown part inside in
    let long = ap length g.1 ∙ length-append (t.views part) g.0 in
    let n = next_told h all before after after part k (Refused BadKey) (before part) [] inside (Contains-push t.calls (span before after)) (sym (append-nil (before part))) (extends_none h after) turned in
    let total = length-append (before part) n.0 in
    row_stays h all after k m.0 (before part ++ n.0) steady n.1 (turn_later h t.calls (span before after ∷ []) t.views after part m.0 inside further m.1) (omega (arith, within, long, total))
    (λ none. m.2 (ap (content (settings_of h.options) k) (sym (moment_later h t.views after part m.0 inside further (omega (arith, within)))) ∙ none))
    n.2
not_refused h t k before after tour has grown steady (inr refused) = memory refused.0
  where
    memory : fault.BadKey ≡ fault.Memory → ⊥
    memory e = cc
