-- Turns of a tour, in terms of the histories of the parts.
use Rattle.std.proofs.Common.{◌≡◌, ◌≢◌, ℕ, suc, ◌<◌, ◌≤◌, ◌==◌, inl, inr, List, [], ◌∷◌, ◌++◌, refl, ap, sym, subst, ◌∙◌, arith, append_assoc, length}
use Rattle.std.specs.Prelude.{IsFalse, All, Contains, Some, take, slice_get}
use Rattle.std.proofs.lemmas.Bool.{eqb-true, eqb-false}
use Rattle.std.proofs.lemmas.List.{append-nil, get_or_append_left, length-append, take-append-le, take_all, take_at}
use Rattle.std.proofs.lemmas.List.Elements.{All-take, Contains-append_left}
use Rattle.std.proofs.lemmas.Nat.{mod_below}
use Rattle.std.proofs.lemmas.Option.{slice_get_within, slice_get-get_or}
use Rattle.term_core.specs.Datum.{Datum}
use Rattle.term_core.specs.KeyHash.{key_hash}
use Rattle.part_core.specs.declared.settings.Settings.{Settings}
use Rattle.part_core.specs.Acts.{Act, Answer, Entry, History}
use Rattle.part_core.specs.Content.{content}
use Rattle.part_core.specs.Laws.{IsPlacedAt, Stays}
use Rattle.part_core.specs.Legal.{state_after, IsLegal, IsFixedFrom, fix_count}
use Rattle.part_core.specs.Rows.{PartState, opening}
use Rattle.part_core.specs.Settings.{is_ordered, part_of}
use Rattle.part_core.proofs.HistoryLemmas.{content_of, legal_front_from, legal_rest_from, state_more}
use Rattle.part_core.proofs.KeyLemmas.{by_test}
use Rattle.part_core.proofs.LawLemmas.{fixes_show, none_elsewhere}
use Rattle.part_core.proofs.StayLemmas.{stays_from}
use Rattle.tables.specs.Options.{settings_of}
use Rattle.tables.specs.Turns.{Home, Views, TurnedAt}
use Rattle.tables.proofs.TurnLemmas.{turned_front}
use Rattle.walk_core.specs.Moments.{Span, span}
use Rattle.walk_laws.specs.Tours.{IsTurn, IsSteady, Stayed}
use Rattle.walk_laws.proofs.StateLemmas.{IsThere, IsHeld}

-- the state of a part after a history
abbrev pub state_at : Home → History → PartState
state_at h log = state_after (settings_of h.options) log

abbrev pub part_at : Home → Datum → ℕ
part_at h k = part_of (settings_of h.options) k

-- a turn of some calls at a part, and the history before it
pub record Told (h : Home) (calls : List Span) (now : Views) (part : ℕ) (log : History) : Type 0 where
  pub more : History
  pub whole : now part ≡ log ++ more
  pub turn : IsTurn h calls now part (length log)
  pub legal : IsLegal (settings_of h.options) log

-- the histories of the parts are continued
abbrev pub Extends : Home → Views → Views → Type 0
Extends h old now = (part : ℕ) → part < h.options.parts → (more : History) × (now part ≡ old part ++ more)

pub extends_none : (h : Home) (v : Views) → Extends h v v
extends_none h v part inside = ([], sym (append-nil (v part)))

pub extends_then : (h : Home) (u v w : Views) → Extends h u v → Extends h v w → Extends h u w
extends_then h u v w first next part inside =
    let a = first part inside in
    let b = next part inside in
    (a.0 ++ b.0, b.1 ∙ ap (λ log. log ++ b.0) a.1 ∙ append_assoc (u part) a.0 b.0)

pub key_part : (h : Home) (k : Datum) → 0 < h.options.parts → part_at h k < h.options.parts
key_part h k some = mod_below (key_hash k) h.options.parts some

-- ---- a turn of a call

at_length : {X : Type 0} (xs ys : List X) (x : X) → slice_get (xs ++ x ∷ ys) (length xs) ≡ Some x
at_length [] ys x = refl
at_length (y ∷ xs) ys x = at_length xs ys x

pub turn_told : (h : Home) (calls : List Span) (before now : Views) (part : ℕ) (old new : History) (act : Act) (answer : Answer) (x y : History) → Contains calls (span before now) → old ≡ before part ++ x → now part ≡ new ++ y → (t : TurnedAt h old act (Some answer) new) → Told h calls now part (old ++ t.between)
turn_told h calls before now part old new act answer x y made front whole t =
    let log : History = old ++ t.between in
    let e : Entry = record { session = h.number; act = act; answer = answer } in
    let all : now part ≡ log ++ e ∷ y = whole ∙ ap (λ (es : History). es ++ y) t.grown ∙ append_assoc log (e ∷ []) y in
    let long = length-append old t.between in
    let first = ap length front ∙ length-append (before part) x in
    let total = ap length all ∙ length-append log (e ∷ y) in
    let one : length (e ∷ y) ≡ suc (length y) = refl in
    record {
      more = e ∷ y;
      whole = all;
      turn = record {
        call = span before now;
        made = made;
        within = (omega (arith, long, first), omega (arith, total, one));
        entry = e;
        stands = ap (λ (es : History). slice_get es (length log)) all ∙ at_length log y e;
        own = refl;
      };
      legal = turned_front h old new act (Some answer) t;
    }

-- ---- what later calls leave of earlier turns

slice_stays : {X : Type 0} (xs ys : List X) (i : ℕ) (x : X) → slice_get xs i ≡ Some x → slice_get (xs ++ ys) i ≡ Some x
slice_stays xs ys i x is =
    let within = slice_get_within xs i x is in
    slice_get-get_or (xs ++ ys) i x (let long = length-append xs ys in omega (arith, within, long))
    ∙ ap Some (get_or_append_left xs ys x i within) ∙ sym (slice_get-get_or xs i x within) ∙ is

pub turn_within : (h : Home) (calls : List Span) (now : Views) (part moment : ℕ) → IsTurn h calls now part moment → moment < length (now part)
turn_within h calls now part moment t = slice_get_within (now part) moment t.entry t.stands

pub turn_later : (h : Home) (calls more : List Span) (old now : Views) (part moment : ℕ) → part < h.options.parts → Extends h old now → IsTurn h calls old part moment → IsTurn h (calls ++ more) now part moment
turn_later h calls more old now part moment inside grown t =
    let g = grown part inside in
    record {
      call = t.call;
      made = Contains-append_left calls more t.call t.made;
      within = t.within;
      entry = t.entry;
      stands = subst (λ (log : History). slice_get log moment ≡ Some t.entry) (sym g.1) (slice_stays (old part) g.0 moment t.entry t.stands);
      own = t.own;
    }

pub moment_later : (h : Home) (old now : Views) (part moment : ℕ) → part < h.options.parts → Extends h old now → moment ≤ length (old part) → take moment (now part) ≡ take moment (old part)
moment_later h old now part moment inside grown low =
    let g = grown part inside in ap (take moment) g.1 ∙ take-append-le moment (old part) g.0 low

pub told_later : (h : Home) (calls more : List Span) (old now : Views) (part : ℕ) (log : History) → part < h.options.parts → Extends h old now → Told h calls old part log → Told h (calls ++ more) now part log
told_later h calls more old now part log inside grown t =
    let g = grown part inside in
    record {
      more = t.more ++ g.0;
      whole = g.1 ∙ ap (λ (es : History). es ++ g.0) t.whole ∙ append_assoc log t.more g.0;
      turn = turn_later h calls more old now part (length log) inside grown t.turn;
      legal = t.legal;
    }

placed_earlier : (o : Settings) (part : ℕ) (old log more : History) → log ≡ old ++ more → All (λ e. IsPlacedAt o part e.act) log → All (λ e. IsPlacedAt o part e.act) old
placed_earlier o part old log more whole placed =
    subst (All (λ (e : Entry). IsPlacedAt o part e.act)) (ap (take (length old)) whole ∙ take_at old more (length old) refl) (All-take (λ (e : Entry). IsPlacedAt o part e.act) (length old) log placed)

pub steady_earlier : (h : Home) (calls more : List Span) (old now : Views) → Extends h old now → IsSteady h (calls ++ more) now → IsSteady h calls old
steady_earlier h calls more old now grown s = record {
  parts = s.parts;
  whole = s.whole;
  number = s.number;
  placed = λ plain part inside. let g = grown part inside in placed_earlier (settings_of h.options) part (old part) (now part) g.0 g.1 (s.placed plain part inside);
  fixed = λ plain part first moment last inside a b low high.
      let within = turn_within h calls old part last b in
      subst (λ (log : History). 0 < fix_count h.number log) (moment_later h old now part moment inside grown (omega (arith, high, within)))
      (s.fixed plain part first moment last inside (turn_later h calls more old now part first inside grown a) (turn_later h calls more old now part last inside grown b) low high);
}

pub stayed_earlier : (h : Home) (calls more : List Span) (old now : Views) (k : Datum) → 0 < h.options.parts → Extends h old now → Stayed h (calls ++ more) now k → Stayed h calls old k
stayed_earlier h calls more old now k some grown stayed =
    λ moment turn.
    let inside = key_part h k some in
    let within = turn_within h calls old (part_at h k) moment turn in
    subst (λ (log : History). content (settings_of h.options) k log ≢ []) (moment_later h old now (part_at h k) moment inside grown (omega (arith, within)))
    (stayed moment (turn_later h calls more old now (part_at h k) moment inside grown turn))

-- ---- what is known at a turn

pub told_moment : (h : Home) (calls : List Span) (now : Views) (part : ℕ) (log : History) → Told h calls now part log → take (length log) (now part) ≡ log
told_moment h calls now part log t = ap (take (length log)) t.whole ∙ take_at log t.more (length log) refl

-- a key that stayed has objects
pub told_there : (h : Home) (calls : List Span) (now : Views) (k : Datum) (log : History) → Stayed h calls now k → Told h calls now (part_at h k) log → IsThere (state_at h log) k
told_there h calls now k log stayed t =
    λ none. stayed (length log) t.turn (ap (content (settings_of h.options) k) (told_moment h calls now (part_at h k) log t) ∙ sym (content_of (settings_of h.options) log k t.legal) ∙ none)

-- a key that has objects is at its part
pub told_placed : (h : Home) (calls : List Span) (now : Views) (part : ℕ) (log : History) (k : Datum) → IsSteady h calls now → part < h.options.parts → Told h calls now part log → IsThere (state_at h log) k → part_at h k ≡ part
told_placed h calls now part log k s inside t there =
    by_test (is_ordered h.options.kind) (part_at h k ≡ part)
    (λ ordered. let one = s.whole ordered in let below = key_part h k s.parts in omega (arith, one, below, inside))
    (λ plain. by_test (part_at h k == part) (part_at h k ≡ part) (λ same. eqb-true (part_at h k) part same)
    (λ other. absurd (there (content_of (settings_of h.options) log k t.legal ∙ none_elsewhere (settings_of h.options) part log k (placed_earlier (settings_of h.options) part log (now part) t.more t.whole (s.placed plain part inside)) (eqb-false (part_at h k) part other)))))

-- ---- between two turns at a part

fixed_between : (o : Settings) (n : ℕ) (past mid : History) → IsLegal o (past ++ mid) → n < o.sessions → ((moment : ℕ) → length past ≤ moment → moment ≤ length (past ++ mid) → 0 < fix_count n (take moment (past ++ mid))) → IsFixedFrom o (state_after o past) mid
fixed_between o n past [] legal within fixed =
    let whole = append-nil past in
    let same = ap length whole in
    fixes_show o past n (subst (IsLegal o) whole legal) within (subst (λ (log : History). 0 < fix_count n log) (ap (take (length past)) whole ∙ take_all (length past) past (omega arith)) (fixed (length past) (omega arith) (omega (arith, same))))
fixed_between o n past (e ∷ mid) legal within fixed =
    let joined : (past ++ e ∷ []) ++ mid ≡ past ++ e ∷ mid = append_assoc past (e ∷ []) mid in
    let long = length-append past (e ∷ []) in
    let total = length-append past (e ∷ mid) in
    let front : take (length past) (past ++ e ∷ mid) ≡ past = take_at past (e ∷ mid) (length past) refl in (
      fixes_show o past n (legal_front_from o (opening o) past (e ∷ mid) legal) within (subst (λ (log : History). 0 < fix_count n log) front (fixed (length past) (omega arith) (omega (arith, total)))),
      subst (λ (s : PartState). IsFixedFrom o s mid) (state_more o (opening o) past (e ∷ []))
          (fixed_between o n (past ++ e ∷ []) mid (subst (IsLegal o) (sym joined) legal) within
          (λ moment low high. subst (λ (log : History). 0 < fix_count n (take moment log)) (sym joined) (fixed moment (omega (arith, low, long)) (subst (λ (log : History). moment ≤ length log) joined high)))),
    )

-- the order stays from one turn at a part to the next
pub held_between : (h : Home) (calls : List Span) (now : Views) (part : ℕ) (log mid : History) → part < h.options.parts → IsSteady h calls now → Told h calls now part log → Told h calls now part (log ++ mid) → IsHeld (settings_of h.options) (state_at h log) (state_at h (log ++ mid))
held_between h calls now part log mid inside s first last =
    by_test (is_ordered h.options.kind) (IsHeld o (state_at h log) (state_at h (log ++ mid)))
    (λ ordered. inl ordered)
    (λ plain. inr (subst (Stays o (state_at h log)) (sym (state_more o (opening o) log mid)) (stays_from o (state_at h log) mid (legal_rest_from o (opening o) log mid last.legal) (fixed_between o h.number log mid last.legal s.number (λ moment low high. fixed plain moment low high)))))
  where
    o : Settings
    o = settings_of h.options

    fixed : IsFalse (is_ordered h.options.kind) → (moment : ℕ) → length log ≤ moment → moment ≤ length (log ++ mid) → 0 < fix_count h.number (take moment (log ++ mid))
    fixed plain moment low high =
        subst (λ (es : History). 0 < fix_count h.number es) (ap (take moment) last.whole ∙ take-append-le moment (log ++ mid) last.more high)
        (s.fixed plain part (length log) moment (length (log ++ mid)) inside first.turn last.turn low high)
